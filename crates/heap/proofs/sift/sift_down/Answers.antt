use Rattle.std.proofs.Common.{arith}
use Rattle.std.proofs.lemmas.Cmp.{upto}
use Rattle.std.proofs.lemmas.List.Sorted.{IsPermutation-trans}
use Rattle.heap.specs.Sifting.{Best, Mends}
use Rattle.heap.proofs.sift.sift_down.Goals as goal

pub loop-at-preserved : goal.loop-at-preserved
loop-at-preserved g c = record {
  shuffled = search IsPermutation-trans;
  sunk = λ h. unfold Best in grind (arith, g.met.T.Ord.total.antisymm, c.loop-at.invariant.sunk h, c.swap.ensures.by_index, c.if-not-is_after.ensures, c.first_child-child.ensures.best);
}

pub returns-then-not-is_after-clause-mends : goal.returns-then-not-is_after-clause-mends
returns-then-not-is_after-clause-mends g c = unfold Mends Best in λ h. grind (arith, upto g.met.T.Ord.total, c.loop-at.invariant.sunk h, c.if-not-is_after.ensures, c.first_child-child.ensures.best)

pub returns-clause-mends : goal.returns-clause-mends
returns-clause-mends g c = unfold Mends in λ h. grind (arith, c.loop-at.invariant.sunk h)
