use Rattle.std.proofs.Common.{◌≡◌, ◌-◌, ◌++◌, length, get_or, take, drop, arith, rules, length-take}
use Rattle.std.proofs.Math.Nat.{sub-zero}
use Rattle.std.proofs.lemmas.List.{get_or-take, get_or_default, places}
use Rattle.std.proofs.lemmas.List.Sorted.{length_permutation}
use Rattle.heap.proofs.Held.{given_out, take_front, behind}
use Rattle.heap.proofs.Sifts.{first}
use Rattle.heap.proofs.Heap.pop.Goals as goal

pub returns-clause-popped : goal.returns-clause-popped
returns-clause-popped g c =
    let e = c.args.self.now.slots.now in
    let n = c.args.self.now.len in
    let x = get_or e 0 c.index-self-0.result in
    let ys = c.swap.new.self in
    let zs = c.sift_down.new.s in
    let w = c.swap.ensures in
    let r = c.sift_down.ensures in
    let head : (d : g.row.T.Denot) → x ≡ get_or (take n e) 0 d = λ d. grind (arith, get_or_default, get_or-take) in
    let size : length zs ≡ n - 1 = grind (arith, length_permutation _ zs r.shuffled, length-take) in
    let held = rw (sub-zero n) at (given_out g.T.Ord.cmp (take (n - 0) e) ys _ zs x (n - 1) (grind (arith, length-take)) (rw sub-zero head) w.len w.permutation (w.by_index.0, w.by_index.1, w.by_index.2) (rw sub-zero) r.shuffled r.mends) in
    let lies = rw (← take_front zs (drop (n - 1 - 0) ys) (drop (n - 0) e) (n - 1) size) at held in (
      (search (rules, arith, length-take), head, first g.met.T.Ord.total (take n e) x head),
      record {
        bag = lies.0;
        heaped = lies.1;
        room = search (rules, places, arith);
        unused = λ k d a b. behind (zs ++ drop (n - 1 - 0) ys) e n (n - 0) k d (search (rules, places, arith)) (omega arith) (grind (arith, length-take));
      },
    )
