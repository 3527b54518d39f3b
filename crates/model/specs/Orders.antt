-- What an order of n jobs is, and what the check of a list of entries answers.
use Rattle.std.specs.Prelude.{◌≡◌, ◌≢◌, ℕ, ◌+◌, ◌<◌, ◌≤◌, ◌==◌, if◌then◌else◌, List, [], ◌∷◌, length, take, All, Ok, Err, Result, Some, None, Option, slice_index}
use Rattle.model.specs.declared.refusal.Refusal.{Refusal}
use Rattle.model.specs.Returned.{Returns}

-- How often job j stands in a list.
abbrev pub times : ℕ → List ℕ → ℕ
times j [] = 0
times j (k ∷ ks) = (if j == k then 1 else 0) + times j ks

-- One of the jobs from 1 to n.
abbrev pub Listed : ℕ → ℕ → Type 0
Listed n j = (1 ≤ j) × (j ≤ n)

-- An order of n jobs names jobs from 1 to n, and each of them exactly once.
pub record Order (n : ℕ) (o : List ℕ) : Type 0 where
  pub listed : All (Listed n) o
  pub once : (j : ℕ) → Listed n j → times j o ≡ 1

-- The entry at index i is good: one of the jobs, and not named before.
pub record Fresh (n : ℕ) (o : List ℕ) (i : ℕ) : Type 0 where
  pub listed : Listed n (slice_index o i)
  pub new : times (slice_index o i) (take i o) ≡ 0

-- The first entry that is 0, too great or repeated.
pub record FirstBad (n : ℕ) (o : List ℕ) (i : ℕ) : Type 0 where
  pub within : i < length o
  pub bad : Fresh n o i → ⊥
  pub before : (k : ℕ) → k < i → Fresh n o k

-- What a search for the first bad entry finds: none where each entry is good.
abbrev pub SoughtBad : ℕ → List ℕ → Option ℕ → Type 0
SoughtBad n o (Some i) = FirstBad n o i
SoughtBad n o None = (k : ℕ) → k < length o → Fresh n o k

-- Why a list is no order: it has not one entry for each job, or else some entry is bad, of which the first is named by its place from 1.
pub data Misnamed (n : ℕ) (o : List ℕ) (e : Refusal) : Type 0 where
  not_one_each : (length o ≢ n) → Returns e 6 [] → Misnamed n o e
  bad_entry : (i : ℕ) → length o ≡ n → FirstBad n o i → Returns e 7 ((i + 1) ∷ []) → Misnamed n o e

-- An order passes; any other list is refused for that reason.
abbrev pub Checked : ℕ → List ℕ → Result (Unit {0}) Refusal → Type 0
Checked n o (Ok u) = Order n o
Checked n o (Err e) = Misnamed n o e
