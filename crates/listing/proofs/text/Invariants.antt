use Rattle.std.proofs.Common.{◌≡◌, take, vec_items, string_bytes}
use Rattle.listing.specs.Listing.{lines_of}
use Rattle.listing.proofs.text.Given as goal

abbrev pub invariant-loop-slot : goal.invariant-loop-slot
invariant-loop-slot l = string_bytes l.text ≡ lines_of (take l.slot-index (vec_items l.schedule.slots))
