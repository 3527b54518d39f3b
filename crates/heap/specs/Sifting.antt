-- What the steps of sifting say, for the heap's own functions. The children of the item at index j stand at 2j + 1 and 2j + 2.
use Rattle.std.specs.Prelude.{◌≡◌, ℕ, ◌+◌, ◌*◌, ◌<◌, ◌≤◌, Bool, false, List, length, ◌≢◌, slice_index_or}
use Rattle.std.specs.declared.cmp.Ordering.{Ordering}
use Rattle.heap.specs.Order.{after, Heaped}

module _ {X : Type 0} (R : X → X → Ordering) where
  -- The item at c comes after no child of j.
  abbrev pub Over : List X → ℕ → ℕ → Type 0
  Over xs j c = (k : ℕ) (d : X) → j * 2 + 1 ≤ k → k ≤ j * 2 + 2 → k < length xs → after R (slice_index_or xs c d) (slice_index_or xs k d) ≡ false

  -- In heap order, were the item at j taken out: each other parent is right, and the parent of j comes after no child of j.
  abbrev pub Gap : List X → ℕ → Type 0
  Gap xs j =
      ((p k : ℕ) (d : X) → p * 2 + 1 ≤ k → k ≤ p * 2 + 2 → k < length xs → (p ≢ j) → (k ≢ j) → after R (slice_index_or xs p d) (slice_index_or xs k d) ≡ false)
      × ((p k : ℕ) (d : X) → p * 2 + 1 ≤ j → j ≤ p * 2 + 2 → j * 2 + 1 ≤ k → k ≤ j * 2 + 2 → k < length xs → after R (slice_index_or xs p d) (slice_index_or xs k d) ≡ false)

  -- r tells whether the item at a comes after the one at b.
  abbrev pub Tells : List X → ℕ → ℕ → Bool → Type 0
  Tells xs a b r = (d : X) → r ≡ after R (slice_index_or xs a d) (slice_index_or xs b d)

  -- The best child of j, at c: the item there comes after no child of j.
  unfoldable pub Best : List X → ℕ → ℕ → Type 0
  Best xs j c = Over xs j c

  -- An item at j that is too far down has risen to its place.
  unfoldable pub Rises : List X → ℕ → List X → Type 0
  Rises xs j ys = Gap xs j → Over xs j j → Heaped R ys

  -- A first item that is too far up has sunk to its place.
  unfoldable pub Mends : List X → List X → Type 0
  Mends xs ys = Gap xs 0 → Heaped R ys
