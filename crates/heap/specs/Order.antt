-- Heap order, by a comparison R of the items.
use Rattle.std.specs.Prelude.{◌≡◌, ℕ, ◌+◌, ◌/◌, ◌<◌, Bool, false, List, length, slice_index_or, All}
use Rattle.std.specs.declared.cmp.Ordering.{Ordering}
use Rattle.std.specs.Ordering.{is_gt}

module _ {X : Type 0} (R : X → X → Ordering) where
  -- x comes after y.
  abbrev pub after : X → X → Bool
  after x y = is_gt (R x y)

  -- No parent comes after its child. The parent of the item at index k + 1 stands at k / 2.
  abbrev pub Heaped : List X → Type 0
  Heaped xs = (k : ℕ) (d : X) → k + 1 < length xs → after (slice_index_or xs (k / 2) d) (slice_index_or xs (k + 1) d) ≡ false

  -- x comes after no item of xs.
  abbrev pub First : X → List X → Type 0
  First x xs = All (λ y. after x y ≡ false) xs
