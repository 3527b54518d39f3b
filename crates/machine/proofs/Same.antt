-- An order has one schedule.
use Rattle.std.proofs.Common.{◌≡◌, ℕ, zero, suc, ◌<◌, List, length, arith}
use Rattle.std.proofs.lemmas.List.{ext_get_or}
use Rattle.machine.specs.declared.row.Row.{Row}
use Rattle.machine.specs.declared.schedule.Slot.{Slot}
use Rattle.machine.specs.Schedule.{no_slot, slot, Slotted}

module _ (rows : List Row) (o : List ℕ) (a b : List Slot) (p : Slotted rows o a) (q : Slotted rows o b) where
  slot_same : (k : ℕ) → k < length o → slot a k ≡ slot b k
  slot_same zero h = grind arith
  slot_same (suc k) h = grind (arith, slot_same k)

  pub slots_same : a ≡ b
  slots_same = search (arith, ext_get_or no_slot a b, slot_same)
