use Rattle.std.proofs.Common.{◌-◌, ◌/◌, arith}
use Rattle.std.proofs.lemmas.Cmp.{upto}
use Rattle.std.proofs.lemmas.List.Sorted.{IsPermutation-trans}
use Rattle.heap.specs.Sifting.{Rises}
use Rattle.heap.proofs.sift.sift_up.Goals as goal

pub loop-at-preserved : goal.loop-at-preserved
loop-at-preserved g c =
    let o = g.met.T.Ord.total in
    let w = c.swap.ensures.by_index in
    let t = c.if-not-is_after.ensures in record {
      within = omega arith;
      shuffled = search IsPermutation-trans;
      risen = λ a b.
          let i = c.loop-at.invariant.risen a b in
          ((grind (arith, w, t), λ p k d. grind (arith, w, upto o, i.0.0 p ((c.loop-at.at - 1) / 2) d)), grind (arith, o.antisymm, upto o, w, t));
    }

pub returns-then-not-is_after-clause-rises : goal.returns-then-not-is_after-clause-rises
returns-then-not-is_after-clause-rises g c = unfold Rises in λ a b. grind (arith, c.loop-at.invariant.risen a b, c.if-not-is_after.ensures)

pub returns-clause-rises : goal.returns-clause-rises
returns-clause-rises g c = unfold Rises in λ a b. grind (arith, c.loop-at.invariant.risen a b)
