use Rattle.std.proofs.Common.{◌≡◌, ◌+◌, ◌-◌, ◌≤◌, [], ◌∷◌, ◌++◌, length, take, drop, set, ap, ◌∙◌, arith, rules, length-take}
use Rattle.std.proofs.lemmas.List.{take_more_set, take_at, length_push, get_or-set_other, places}
use Rattle.std.proofs.lemmas.List.Sorted.{length_permutation}
use Rattle.heap.proofs.Held.{taken_in, behind}
use Rattle.heap.proofs.Heap.push.Goals as goal

pub returns-clause-pushed : goal.returns-clause-pushed
returns-clause-pushed g c =
    let e = c.args.self.now.slots.now in
    let n = c.args.self.now.len in
    let x = c.args.x in
    let zs = c.sift_up.new.s in
    let r = c.sift_up.ensures in
    let part : take (n + 1 - 0) (set e n x) ≡ take n e ++ x ∷ [] = grind (arith, take_more_set) in
    let size : length zs ≡ n + 1 = grind (arith, length_permutation _ zs r.shuffled, length_push, length-take) in
    let held = taken_in g.T.Ord.cmp (take n e) x _ zs n (grind (arith, length-take)) part r.shuffled r.rises in
    let front = take_at zs (drop (n + 1 - 0) (set e n x)) (n + 1) size in
    let lies = rw (← front) at held in (
      search (rules, arith, length-take),
      record {
        bag = lies.0;
        heaped = lies.1;
        room = search (rules, places);
        unused = λ k d a b.
            let past : n + 1 ≤ k = omega (arith, ap length front, size) in
            behind zs (set e n x) (n + 1) (n + 1 - 0) k d size (omega arith) past ∙ get_or-set_other e n k x d (λ q. omega arith);
      },
    )
