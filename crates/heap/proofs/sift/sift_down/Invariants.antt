use Rattle.std.proofs.Common.{◌-◌, length}
use Rattle.std.specs.List.Sorted.{IsPermutation}
use Rattle.heap.proofs.Sifts.{Sinking}
use Rattle.heap.proofs.sift.sift_down.Given as goal

abbrev pub invariant-loop-at : goal.invariant-loop-at
invariant-loop-at g l = record { shuffled : IsPermutation l.initial.s l.s; sunk : Sinking g.T.Ord.cmp l.initial.s l.s l.at }

abbrev pub decreases-loop-at : goal.decreases-loop-at
decreases-loop-at g l = length l.initial.s - l.at
