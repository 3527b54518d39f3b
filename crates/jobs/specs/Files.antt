-- What a file of records is, and what reading it answers and leaves.
use Rattle.std.specs.Prelude.{◌≡◌, ℕ, ◌+◌, ◌*◌, ◌/◌, ◌%◌, ◌<◌, ◌≤◌, List, [], map, length, All, None, Ok, Err, MatchResult, vec_items, Result, Vec, slice_index_or}
use Rattle.std.specs.declared.alloc.Global.{Global}
use Rattle.std.specs.Simd.{first_chunks}
use Rattle.std.specs.List.{flat_map}
use Rattle.model.specs.declared.refusal.Refusal.{Refusal}
use Rattle.model.specs.Returned.{Returns, returned, SameRefusal}
use Rattle.records.specs.declared.field.Span.{Span}
use Rattle.records.specs.Fields.{Lawful, Fault}
use Rattle.records.specs.Bytes.{fields_of, record_of}
use Rattle.jobs.specs.Lists.{most_jobs}

-- A file is its records one after the other: the rows in a file are the fields of its records.
abbrev pub rows_in : List ℕ → List (List ℕ)
rows_in b = map fields_of (first_chunks 16 (length b / 16) b)

abbrev pub file_of : List (List ℕ) → List ℕ
file_of rows = flat_map record_of rows

-- The first faulty row, with the number of its job: the rows before it are lawful.
pub record FirstFault (spans : List Span) (rows : List (List ℕ)) (e : Refusal) : Type 0 where
  pub at : ℕ
  pub within : at < length rows
  pub before : (i : ℕ) → i < at → Lawful spans (slice_index_or rows i [])
  pub fault : Fault spans (at + 1) (slice_index_or rows at []) e

-- What a reading of rows may be refused for: their first fault, or want of memory.
pub data Misread (spans : List Span) (rows : List (List ℕ)) (e : Refusal) : Type 0 where
  faulty : FirstFault spans rows e → Misread spans rows e
  no_memory : returned e ≡ None → Misread spans rows e

-- Whole records, at least one.
pub record Whole (b : List ℕ) : Type 0 where
  pub some : 1 ≤ length b
  pub whole : length b % 16 ≡ 0

-- Why a file is not read: with 1 unless it is whole records, then with 2 where they are more than a list holds, then for the first fault.
pub data Unread (spans : List Span) (b : List ℕ) (e : Refusal) : Type 0 where
  not_records : (Whole b → ⊥) → Returns e 1 [] → Unread spans b e
  too_many : Whole b → most_jobs * 16 < length b → Returns e 2 [] → Unread spans b e
  misread : Whole b → length b ≤ most_jobs * 16 → Misread spans (rows_in b) e → Unread spans b e

-- The list holds just the jobs of the file's records, and its records one after the other are the file.
pub record Holds (spans : List Span) (rows : List (List ℕ)) (b : List ℕ) : Type 0 where
  pub whole : Whole b
  pub few : length b ≤ most_jobs * 16
  pub lawful : All (Lawful spans) rows
  pub read : rows ≡ rows_in b
  pub written : file_of rows ≡ b

-- A file is read in the place of the list, or the list stays as it was.
abbrev pub Read : {J : Type 0} → List Span → (J → List ℕ) → List J → List J → List ℕ → Result (Unit {0}) Refusal → Type 0
Read spans row js js' b (Ok u) = Holds spans (map row js') b
Read spans row js js' b (Err e) = (js' ≡ js) × Unread spans b e

-- No other refusal is due to the file.
abbrev pub OneRefusal : List Span → List ℕ → Result (Unit {0}) Refusal → Type 0
OneRefusal spans b (Ok u) = (f : Refusal) → Unread spans b f → returned f ≡ None
OneRefusal spans b (Err e) = (f : Refusal) → Unread spans b f → SameRefusal e f

-- The jobs of some records, or why they are not read.
abbrev pub JobsRead : {J : Type 0} → List Span → (J → List ℕ) → List (List ℕ) → Result (Vec J Global) Refusal → Type 0
JobsRead spans row records (Ok js) = map row (vec_items js) ≡ map fields_of records
JobsRead spans row records (Err e) = Misread spans (map fields_of records) e

-- Whenever this file is read in the place of a list, the list then holds just these jobs; only want of memory refuses it.
-- (A list without jobs has an empty file, which is refused.)
abbrev pub ReadsBack : {J : Type 0} → List Span → (J → List ℕ) → List J → List ℕ → Type 0
ReadsBack {J} spans row js b = (ks ks' : List J) (r : Result (Unit {0}) Refusal) → 1 ≤ length js → Read spans row ks ks' b r → MatchResult r (λ _. ks' ≡ js) (λ e. returned e ≡ None)
