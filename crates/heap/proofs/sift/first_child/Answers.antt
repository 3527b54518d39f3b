use Rattle.std.proofs.Common.{arith}
use Rattle.heap.specs.Sifting.{Best}
use Rattle.heap.proofs.sift.first_child.Goals as goal

pub returns-then-left-s-clause-best : goal.returns-then-left-s-clause-best
returns-then-left-s-clause-best g c = unfold Best in grind (arith, g.met.T.Ord.total.antisymm)

pub returns-then-is_after-clause-best : goal.returns-then-is_after-clause-best
returns-then-is_after-clause-best g c = unfold Best in grind (arith, g.met.T.Ord.total.antisymm, c.if-is_after.ensures)

pub returns-clause-best : goal.returns-clause-best
returns-clause-best g c = unfold Best in grind (arith, g.met.T.Ord.total.antisymm, c.if-is_after.ensures)
