-- Slots one after the other.
use Rattle.std.proofs.Common.{◌≡◌, ℕ, zero, suc, ◌+◌, ◌≤◌, max, List, [], ◌∷◌, ◌++◌, length, refl, arith}
use Rattle.std.proofs.lemmas.List.{length_push, get_or_append_left, get_or_push}
use Rattle.std.proofs.lemmas.Bool.{cases_lt}
use Rattle.machine.specs.declared.row.Row.{Row}
use Rattle.machine.specs.declared.schedule.Slot.{Slot}
use Rattle.machine.specs.Rows.{head, work}
use Rattle.machine.specs.Schedule.{no_slot, free_for, Slotted, delivered, Greatest, ended, free, worth_from}

ruleset pushes = (length_push, get_or_push, get_or_append_left)

-- one slot more
free_before : (slots : List Slot) (s : Slot) (i : ℕ) → i ≤ length slots → free_for (slots ++ s ∷ []) i ≡ free_for slots i
free_before slots s zero h = refl
free_before slots s (suc i) h = grind (arith, pushes)

-- the job j is run next, in the slot s
pub record Runs (rows : List Row) (slots : List Slot) (j : ℕ) (s : Slot) : Type 0 where
  pub job : s.job ≡ j
  pub start : s.start ≡ max (free_for slots (length slots)) (head rows j)
  pub end : s.end ≡ s.start + work rows j

pub slotted_push : (rows : List Row) (o : List ℕ) (slots : List Slot) (j : ℕ) (s : Slot) → Slotted rows o slots → Runs rows slots j s → Slotted rows (o ++ j ∷ []) (slots ++ s ∷ [])
slotted_push rows o slots j s h r = grind (arith, pushes, free_before)

pub greatest_push : (rows : List Row) (slots : List Slot) (s : Slot) (w : ℕ) → Greatest rows slots w → Greatest rows (slots ++ s ∷ []) (max w (delivered rows s))
greatest_push rows slots s w h = grind (arith, pushes, get_or_push slots s no_slot _ refl, cases_lt (delivered rows s) w)

-- the same by recursion
pub free_append : (rows : List Row) (t : ℕ) (a b : List ℕ) → free rows t (a ++ b) ≡ free rows (free rows t a) b
free_append rows t [] b = refl
free_append rows t (j ∷ a) b = free_append rows (ended rows t j) a b

pub worth_append : (rows : List Row) (t : ℕ) (a b : List ℕ) → worth_from rows t (a ++ b) ≡ max (worth_from rows t a) (worth_from rows (free rows t a) b)
worth_append rows t [] b = omega arith
worth_append rows t (j ∷ a) b = omega (arith, worth_append rows (ended rows t j) a b)
