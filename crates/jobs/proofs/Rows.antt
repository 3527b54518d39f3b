-- What stands at a place of a mapped list.
use Rattle.std.proofs.Common.{◌≡◌, ℕ, List, map, Some, None, arith}
use Rattle.std.proofs.lemmas.List.{length-map, get_or-map}
use Rattle.model.specs.Places.{AtPlace}

-- the image of what stands at the place in the list
pub at_map : {X Y : Type 0} (f : X → Y) (xs : List X) (n : ℕ) (x : X) (y : Y) → y ≡ f x → AtPlace xs n (Some x) → AtPlace (map f xs) n (Some y)
at_map f xs n x y e h = grind (arith, length-map, get_or-map)

-- none where none stands there in the list
pub at_map_none : {X Y : Type 0} (f : X → Y) (xs : List X) (n : ℕ) → AtPlace xs n None → AtPlace (map f xs) n None
at_map_none f xs n h = grind (arith, length-map)
