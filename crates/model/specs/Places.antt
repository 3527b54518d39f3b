-- What stands at a place of a list.
use Rattle.std.specs.Prelude.{◌≡◌, ℕ, ◌-◌, ◌<◌, ◌≤◌, ◌⊎◌, List, length, Some, None, Option, slice_index_or}

-- Places count from 1; there is none where there is no such place.
abbrev pub AtPlace : {X : Type 0} → List X → ℕ → Option X → Type 0
AtPlace xs place (Some x) = (1 ≤ place) × (place ≤ length xs) × (x ≡ slice_index_or xs (place - 1) x)
AtPlace xs place None = (place ≡ 0) ⊎ (length xs < place)
