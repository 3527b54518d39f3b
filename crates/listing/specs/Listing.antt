-- What is listed for the bytes of a job file.
use Rattle.std.specs.Prelude.{◌≡◌, ℕ, List, ◌++◌, map, length, Some, None, Ok, Err, vec_items, string_bytes, codes, decimal, Result, String, slice_index}
use Rattle.std.specs.List.{range_with_len, flat_map}
use Rattle.std.specs.declared.alloc.Global.{Global}
use Rattle.model.specs.declared.refusal.Refusal.{Refusal}
use Rattle.model.specs.Returned.{returned, number_of}
use Rattle.records.specs.Kinds.{machine_spans}
use Rattle.jobs.specs.Files.{rows_in}
use Rattle.jobs.specs.Files.{Holds, Unread}
use Rattle.machine.specs.declared.row.Row.{Row}
use Rattle.machine.specs.declared.schedule.Schedule.{Schedule}
use Rattle.machine.specs.declared.schedule.Slot.{Slot}
use Rattle.machine.specs.Lines.{line_of}
use Rattle.machine.specs.Schedule.{Schedules}

-- The rows of a file's jobs: the fields of each record are head, work and tail.
abbrev pub row_of_fields : List ℕ → Row
row_of_fields fs = record { head = slice_index fs 0; work = slice_index fs 1; tail = slice_index fs 2 }

abbrev pub machine_rows : List ℕ → List Row
machine_rows b = map row_of_fields (rows_in b)

-- The jobs of a file in the order of their numbers.
abbrev pub by_number : List ℕ → List ℕ
by_number b = range_with_len 1 (length (machine_rows b))

-- A schedule of the file's jobs in that order, or why the file is not read; a file that can be read is refused only for want of memory.
abbrev pub ReadPlan : List ℕ → Result Schedule Refusal → Type 0
ReadPlan b (Ok s) = Holds machine_spans (rows_in b) b × Schedules (machine_rows b) (by_number b) s
ReadPlan b (Err e) = Unread machine_spans b e

-- A line for each slot and one for the worth, each with a newline at its end.
abbrev pub lines_of : List Slot → List ℕ
lines_of slots = flat_map (λ s. line_of s ++ codes "\n") slots

abbrev pub text_of : Schedule → List ℕ
text_of s = lines_of (vec_items s.slots) ++ (codes "best " ++ (decimal s.worth ++ codes "\n"))

-- The text that is shown for a file: the schedule of its jobs in the order of the file, or the number of the refusal.
pub data Shows (b : List ℕ) (t : List ℕ) : Type 0 where
  scheduled : (s : Schedule) → Holds machine_spans (rows_in b) b → Schedules (machine_rows b) (by_number b) s → t ≡ text_of s → Shows b t
  refused : (e : Refusal) (n : ℕ) → Unread machine_spans b e → number_of e ≡ Some n → t ≡ codes "refused " ++ (decimal n ++ codes "\n") → Shows b t

abbrev pub ListedAs : List ℕ → Result (String Global) Refusal → Type 0
ListedAs b (Ok t) = Shows b (string_bytes t)
ListedAs b (Err e) = returned e ≡ None

-- No other text is shown for the file.
abbrev pub OneText : List ℕ → List ℕ → Type 0
OneText b t = (u : List ℕ) → Shows b u → u ≡ t
