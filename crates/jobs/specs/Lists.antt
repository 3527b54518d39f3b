-- What the calls of a list of jobs answer and leave.
-- A kind of jobs has the limits `spans` of its four fields, and `row` gives the four fields of a job.
use Rattle.std.specs.Prelude.{◌≡◌, ℕ, ◌+◌, ◌<◌, ◌≤◌, List, [], ◌∷◌, ◌++◌, map, length, None, Ok, Err, Result}
use Rattle.model.specs.declared.refusal.Refusal.{Refusal}
use Rattle.model.specs.Returned.{Returns, returned}
use Rattle.records.specs.declared.field.Span.{Span}
use Rattle.records.specs.Fields.{Lawful, Fault}

-- The most jobs that a list holds.
abbrev pub most_jobs : ℕ
most_jobs = 128

-- Why a job is not added to n jobs: with 2 where the list is full, else for the fault of its fields under the number that it would get.
-- Only want of memory keeps a lawful job out, and only where the list has used up the room for `cap` jobs that it holds.
pub data NotAdded (spans : List Span) (n cap : ℕ) (fs : List ℕ) (e : Refusal) : Type 0 where
  full : n ≡ most_jobs → Returns e 2 [] → NotAdded spans n cap fs e
  faulty : n < most_jobs → Fault spans (n + 1) fs e → NotAdded spans n cap fs e
  no_memory : n < most_jobs → cap ≤ n → Lawful spans fs → returned e ≡ None → NotAdded spans n cap fs e

-- The job with these fields is added at the end of the list, or the list stays as it was.
abbrev pub Added : {J : Type 0} → List Span → (J → List ℕ) → ℕ → List J → List J → List ℕ → Result (Unit {0}) Refusal → Type 0
Added spans row cap js js' fs (Ok u) = (length js < most_jobs) × Lawful spans fs × (map row js' ≡ map row js ++ fs ∷ [])
Added spans row cap js js' fs (Err e) = (js' ≡ js) × NotAdded spans (length js) cap fs e
