-- What a refusal returns to the caller.
use Rattle.std.specs.Prelude.{◌≡◌, ℕ, List, [], ◌∷◌, Some, None, Option}
use Rattle.std.specs.Option.{option_map}
use Rattle.model.specs.declared.refusal.Refusal.{Refusal}
use Rattle.model.specs.declared.refusal.Refusal.TheVariants.{NotRecords, JobCount, FieldLimits, FourthField, TableLength, OrderLength, OrderEntry, Budget, BrokenNode, LineUnfit, Finished, Memory}

-- A number, and the values that come with it.
pub record Answer : Type 0 where
  pub number : ℕ
  pub values : List ℕ

-- The number and the values of each refusal. Want of memory has no number.
abbrev pub returned : Refusal → Option Answer
returned NotRecords = Some (record { number = 1; values = [] })
returned JobCount = Some (record { number = 2; values = [] })
returned (FieldLimits job field) = Some (record { number = 3; values = job ∷ field ∷ [] })
returned (FourthField job) = Some (record { number = 4; values = job ∷ [] })
returned TableLength = Some (record { number = 5; values = [] })
returned OrderLength = Some (record { number = 6; values = [] })
returned (OrderEntry place) = Some (record { number = 7; values = place ∷ [] })
returned Budget = Some (record { number = 8; values = [] })
returned (BrokenNode place) = Some (record { number = 9; values = place ∷ [] })
returned LineUnfit = Some (record { number = 10; values = [] })
returned Finished = Some (record { number = 11; values = [] })
returned Memory = None

-- The refusal e is the one with a number and values.
abbrev pub Returns : Refusal → ℕ → List ℕ → Type 0
Returns e n vs = returned e ≡ Some (record { number = n; values = vs })

-- The number alone.
abbrev pub number_of : Refusal → Option ℕ
number_of e = option_map (λ a. a.number) (returned e)

-- Two refusals tell the caller the same number and values, unless one of them is want of memory.
pub data SameRefusal (e f : Refusal) : Type 0 where
  told : returned e ≡ returned f → SameRefusal e f
  first_memory : returned e ≡ None → SameRefusal e f
  second_memory : returned f ≡ None → SameRefusal e f
