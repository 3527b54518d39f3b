-- The schedule of an order: one job after the other, each at the later of its head and the end of the job before.
use Rattle.std.specs.Prelude.{◌≡◌, ℕ, zero, suc, ◌+◌, ◌<◌, ◌≤◌, max, ◌⊎◌, List, [], ◌∷◌, length, None, Ok, Err, vec_items, Result, slice_index, slice_index_or}
use Rattle.model.specs.declared.refusal.Refusal.{Refusal}
use Rattle.model.specs.Orders.{Order, Misnamed}
use Rattle.model.specs.Returned.{returned}
use Rattle.machine.specs.declared.row.Row.{Row}
use Rattle.machine.specs.declared.schedule.Slot.{Slot}
use Rattle.machine.specs.declared.schedule.Schedule.{Schedule}
use Rattle.machine.specs.Rows.{head, work, tail}

-- What is read past the end of the slots.
abbrev pub no_slot : Slot
no_slot = record { job = 0; start = 0; end = 0 }

abbrev pub slot : List Slot → ℕ → Slot
slot slots i = slice_index_or slots i no_slot

-- When the machine is free for the slot at an index: at the end of the slot before, and from 0 on for the first.
abbrev pub free_for : List Slot → ℕ → ℕ
free_for slots zero = 0
free_for slots (suc i) = (slot slots i).end

-- The slots of an order. Each job starts at the later of its head and the end of the job before, and ends its work later.
pub record Slotted (rows : List Row) (o : List ℕ) (slots : List Slot) : Type 0 where
  pub long : length slots ≡ length o
  pub jobs : (i : ℕ) → i < length o → (slot slots i).job ≡ slice_index o i
  pub starts : (i : ℕ) → i < length o → (slot slots i).start ≡ max (free_for slots i) (head rows (slice_index o i))
  pub ends : (i : ℕ) → i < length o → (slot slots i).end ≡ (slot slots i).start + work rows (slice_index o i)

-- When a job is delivered: at its end plus its tail.
abbrev pub delivered : List Row → Slot → ℕ
delivered rows s = s.end + tail rows s.job

-- The greatest delivery of some slots; 0 where there are none.
pub record Greatest (rows : List Row) (slots : List Slot) (w : ℕ) : Type 0 where
  pub most : (i : ℕ) → i < length slots → delivered rows (slot slots i) ≤ w
  pub reached : (w ≡ 0) ⊎ ((i : ℕ) × (i < length slots) × (delivered rows (slot slots i) ≡ w))

-- The worth of an order by recursion, for those who reckon with it: the end of a job where the machine is free from t on,
-- when it is free again after some jobs, and the greatest end plus tail.
abbrev pub ended : List Row → ℕ → ℕ → ℕ
ended rows t j = max t (head rows j) + work rows j

abbrev pub free : List Row → ℕ → List ℕ → ℕ
free rows t [] = t
free rows t (j ∷ o) = free rows (ended rows t j) o

abbrev pub worth_from : List Row → ℕ → List ℕ → ℕ
worth_from rows t [] = 0
worth_from rows t (j ∷ o) = max (ended rows t j + tail rows j) (worth_from rows (ended rows t j) o)

abbrev pub worth : List Row → List ℕ → ℕ
worth rows o = worth_from rows 0 o

-- The schedule of an order: its slots, which are the only ones, and their greatest delivery as its worth, which never passes 130,000,000.
pub record Schedules (rows : List Row) (o : List ℕ) (s : Schedule) : Type 0 where
  pub order : Order (length rows) o
  pub slotted : Slotted rows o (vec_items s.slots)
  pub only : (other : List Slot) → Slotted rows o other → other ≡ vec_items s.slots
  pub greatest : Greatest rows (vec_items s.slots) s.worth
  pub worth_is : s.worth ≡ worth rows o
  pub limit : s.worth ≤ 130000000

-- Why an order is not scheduled: it is none, or memory is wanting.
pub data Unscheduled (n : ℕ) (o : List ℕ) (e : Refusal) : Type 0 where
  misnamed : Misnamed n o e → Unscheduled n o e
  no_memory : Order n o → returned e ≡ None → Unscheduled n o e

abbrev pub Scheduled : List Row → List ℕ → Result Schedule Refusal → Type 0
Scheduled rows o (Ok s) = Schedules rows o s
Scheduled rows o (Err e) = Unscheduled (length rows) o e
