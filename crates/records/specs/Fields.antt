-- The four fields of a record: their limits, and the first that breaks them.
use Rattle.std.specs.Prelude.{◌≡◌, ℕ, ◌+◌, ◌<◌, ◌≤◌, List, [], ◌∷◌, length, All, Ok, Err, Result, slice_index, slice_index_or}
use Rattle.model.specs.declared.refusal.Refusal.{Refusal}
use Rattle.model.specs.Returned.{Returns}
use Rattle.records.specs.declared.field.Span.{Span}

-- Four numbers of 32 bits.
pub record Four (fs : List ℕ) : Type 0 where
  pub long : length fs ≡ 4
  pub small : All (λ n. n < 4294967296) fs

-- What is read past the end of a row of spans.
abbrev pub no_span : Span
no_span = record { least = 0; most = 0 }

-- The field at an index, from 0, lies within its span.
pub record Fit (spans : List Span) (fs : List ℕ) (i : ℕ) : Type 0 where
  pub low : (slice_index_or spans i no_span).least ≤ slice_index fs i
  pub high : slice_index fs i ≤ (slice_index_or spans i no_span).most

-- All four fields lie within their spans.
abbrev pub Lawful : List Span → List ℕ → Type 0
Lawful spans fs = (i : ℕ) → i < 4 → Fit spans fs i

-- The refusal of a job for the field at an index: 3 with the job and the field, from 1, and for the fourth field 4 with the job.
pub data FieldRefusal (job i : ℕ) (e : Refusal) : Type 0 where
  of_limits : i < 3 → Returns e 3 (job ∷ (i + 1) ∷ []) → FieldRefusal job i e
  of_fourth : i ≡ 3 → Returns e 4 (job ∷ []) → FieldRefusal job i e

-- The fault of a job's fields: the first, from left to right, that does not lie within its span.
pub record Fault (spans : List Span) (job : ℕ) (fs : List ℕ) (e : Refusal) : Type 0 where
  pub at : ℕ
  pub within : at < 4
  pub bad : Fit spans fs at → ⊥
  pub before : (i : ℕ) → i < at → Fit spans fs i
  pub said : FieldRefusal job at e

-- Lawful fields pass, others are refused for their fault.
abbrev pub CheckedFields : List Span → ℕ → List ℕ → Result (Unit {0}) Refusal → Type 0
CheckedFields spans job fs (Ok u) = Lawful spans fs
CheckedFields spans job fs (Err e) = Fault spans job fs e

-- A job is taken from its fields: it has just these, and they are lawful; or they are refused for their fault.
-- Here `row` gives the four fields of a job.
abbrev pub Taken : {J : Type 0} → List Span → (J → List ℕ) → ℕ → List ℕ → Result J Refusal → Type 0
Taken spans row job fs (Ok j) = Lawful spans fs × (row j ≡ fs)
Taken spans row job fs (Err e) = Fault spans job fs e
