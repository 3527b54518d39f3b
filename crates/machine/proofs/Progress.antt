-- How far a schedule has come after the first i jobs of an order.
use Rattle.std.proofs.Common.{◌≡◌, ℕ, ◌+◌, ◌*◌, ◌<◌, ◌≤◌, max, List, [], ◌∷◌, ◌++◌, length, get_or, take, vec_items, add-one, arith}
use Rattle.std.proofs.lemmas.List.{take_more, take_all, length_push, get_or_push}
use Rattle.model.specs.Orders.{Order}
use Rattle.machine.specs.declared.row.Row.{Row}
use Rattle.machine.specs.declared.schedule.Slot.{Slot}
use Rattle.machine.specs.declared.schedule.Schedule.{Schedule}
use Rattle.machine.specs.Rows.{row, Low}
use Rattle.machine.specs.Schedule.{free_for, Slotted, delivered, Greatest, free, worth, Schedules}
use Rattle.machine.proofs.Same.{slots_same}
use Rattle.machine.proofs.Slots.{slotted_push, greatest_push, free_append, worth_append}

pub record Progress (rows : List Row) (o : List ℕ) (i : ℕ) (slots : List Slot) (t w : ℕ) : Type 0 where
  pub slotted : Slotted rows (take i o) slots
  pub greatest : Greatest rows slots w
  pub free_is : t ≡ free_for slots (length slots)
  pub free_at : t ≡ free rows 0 (take i o)
  pub worth_at : w ≡ worth rows (take i o)
  pub few : length o ≤ 128
  pub free_low : t ≤ i * 1000000 + 1000000
  pub worth_low : w ≤ i * 1000000 + 2000000

-- one job more
pub progress_more : (rows : List Row) (o : List ℕ) (i : ℕ) (slots : List Slot) (t w : ℕ) (r : Row) (s : Slot) → i < length o → r ≡ row rows (get_or o i 0) → Low r → Progress rows o i slots t w
    → s.job ≡ get_or o i 0 → s.start ≡ max t r.head → s.end ≡ s.start + r.work → Progress rows o (i + 1) (slots ++ s ∷ []) s.end (max w (s.end + r.tail))
progress_more rows o i slots t w r s h at low p job start end =
    let tail : s.end + r.tail ≡ delivered rows s = grind arith in
    rw tail (record {
      slotted = rw (take_more o i 0) (slotted_push rows (take i o) slots _ s p.slotted (grind arith));
      greatest = greatest_push rows slots s w p.greatest;
      free_is = rw (length_push, add-one) (grind (arith, get_or_push));
      free_at = rw (take_more o i 0, free_append) (grind arith);
      worth_at = rw (take_more o i 0, worth_append) (grind arith);
      few = p.few;
      free_low = grind arith;
      worth_low = grind arith;
    })

-- all jobs
pub progress_all : (rows : List Row) (o : List ℕ) (i : ℕ) (s : Schedule) (t : ℕ) → Order (length rows) o → length o ≤ i → i ≤ length o
    → Progress rows o i (vec_items s.slots) t s.worth → Schedules rows o s
progress_all rows o i s t r l u p =
    let slotted : Slotted rows o (vec_items s.slots) = rw (take_all i o l) at p.slotted in
    search (arith, slots_same, rw (take_all i o l) at p.worth_at)
