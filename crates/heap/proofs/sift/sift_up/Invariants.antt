use Rattle.std.proofs.Common.{◌<◌, length}
use Rattle.std.specs.List.Sorted.{IsPermutation}
use Rattle.heap.proofs.Sifts.{Rising}
use Rattle.heap.proofs.sift.sift_up.Given as goal

abbrev pub invariant-loop-at : goal.invariant-loop-at
invariant-loop-at g l = record { within : l.at < length l.s; shuffled : IsPermutation l.initial.s l.s; risen : Rising g.T.Ord.cmp l.initial.s l.initial.at l.s l.at }

abbrev pub decreases-loop-at : goal.decreases-loop-at
decreases-loop-at g l = l.at
