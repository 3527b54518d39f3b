-- From what was read to what is listed.
use Rattle.std.proofs.Common.{◌≡◌, ℕ, ◌+◌, ◌<◌, ◌≤◌, List, [], ◌∷◌, ◌++◌, map, length, take, None, Ok, Err, vec_items, string_bytes, codes, decimal, Result, String, arith, MatchResult}
use Rattle.std.specs.List.{range_with_len}
use Rattle.std.specs.declared.alloc.Global.{Global}
use Rattle.std.proofs.lemmas.Grind.{common_steps}
use Rattle.std.proofs.lemmas.List.{length-map, take_more, take_all}
use Rattle.std.proofs.lemmas.Simd.{map-map}
use Rattle.model.specs.declared.refusal.Refusal.{Refusal}
use Rattle.model.specs.Returned.{returned}
use Rattle.model.proofs.Naming.{numbers_order, misnamed_no_order}
use Rattle.records.specs.declared.machine_job.MachineJob.{MachineJob}
use Rattle.records.specs.Kinds.{machine_spans}
use Rattle.jobs.specs.Files.{Holds, misread, no_memory}
use Rattle.machine.specs.declared.schedule.Schedule.{Schedule}
use Rattle.machine.specs.declared.schedule.Slot.{Slot}
use Rattle.machine.specs.Lines.{line_of}
use Rattle.machine.specs.Rows.{rows_of}
use Rattle.machine.specs.Schedule as schedule
use Rattle.machine.specs.Schedule.{slot, no_slot, Scheduled}
use Rattle.listing.specs.Listing.{machine_rows, by_number, ReadPlan, lines_of, text_of, scheduled, ListedAs}

-- the four fields of a job of one machine
abbrev fields : MachineJob → List ℕ
fields j = j.head ∷ j.work ∷ j.tail ∷ 0 ∷ []

-- a file that was read is scheduled, unless memory is wanting
pub read_plan : (b : List ℕ) (js : List MachineJob) (o : List ℕ) (r : Result Schedule Refusal)
    → Holds machine_spans (map fields js) b → o ≡ range_with_len 1 (length js) → Scheduled (rows_of js) o r → ReadPlan b r
read_plan b js o r held e s = go r (rw (← held.read, map-map, length-map, ← e) s)
  where
    go : (r : Result Schedule Refusal) → Scheduled (machine_rows b) (by_number b) r → ReadPlan b r
    go (Ok s) h = (rw held.read at held, h)
    go (Err e) (schedule.misnamed m) = absurd (misnamed_no_order _ _ e m (numbers_order _))
    go (Err e) (schedule.no_memory h q) = misread held.whole held.few (no_memory q)

-- the lines of the first slots, and behind them the line of the next slot, are the lines of one slot more; xs is the row of slots as a loop reads it
pub lines_more : (slots xs : List Slot) (i : ℕ) (t t' l : List ℕ) → xs ≡ slots → i < length xs → t ≡ lines_of (take i slots)
    → l ≡ line_of (slot xs i) ++ codes "\n" → t' ≡ t ++ l → t' ≡ lines_of (take (i + 1) slots)
lines_more slots xs i t t' l same h e f g = grind (arith, common_steps, take_more slots i no_slot)

-- the lines of all slots, and behind them the line for the worth, are the text of the schedule
pub text_all : (s : Schedule) (xs : List Slot) (i : ℕ) (t t' l : List ℕ) → xs ≡ vec_items s.slots → length xs ≤ i → t ≡ lines_of (take i (vec_items s.slots))
    → l ≡ codes "best " ++ (decimal s.worth ++ codes "\n") → t' ≡ t ++ l → t' ≡ text_of s
text_all s xs i t t' l same h e f g = grind (arith, take_all)

-- where a file was read and its schedule's text is shown, or memory is wanting for that, what is shown is what is listed for the file
pub shown : (b : List ℕ) (s : Schedule) (r : Result (String Global) Refusal) → ReadPlan b (Ok s) → MatchResult r (λ t. string_bytes t ≡ text_of s) (λ e. returned e ≡ None) → ListedAs b r
shown b s (Ok t) p h = scheduled s p.0 p.1 h
shown b s (Err e) p h = h
