-- What the calls of a heap answer and leave.
-- Before a call the memory holds `cells`, of which the first are the `items`; after it cells' and items'.
-- R is what the comparison of two items answers.
use Rattle.std.specs.Prelude.{◌≡◌, ℕ, ◌<◌, ◌≤◌, List, [], ◌∷◌, ◌++◌, length, Some, None, Ok, Err, Option, Result, slice_index_or}
use Rattle.std.specs.declared.cmp.Ordering.{Ordering}
use Rattle.std.specs.List.Sorted.{IsPermutation}
use Rattle.heap.specs.Order.{Heaped, First}

-- How the items lie in the memory after a call is left open. This much is certain, where `came` were added and `went` taken away.
pub record Lies {X : Type 0} (R : X → X → Ordering) (cells items cells' items' came went : List X) : Type 0 where
  -- The bag of items changed by just these.
  pub bag : IsPermutation (came ++ items) (went ++ items')
  -- Heap order holds if it held before.
  pub heaped : Heaped R items → Heaped R items'
  -- The memory is as large as it was.
  pub room : length cells' ≡ length cells
  -- A cell that held no item and holds none now is as it was.
  pub unused : (k : ℕ) (d : X) → length items ≤ k → length items' ≤ k → slice_index_or cells' k d ≡ slice_index_or cells k d

module _ {X : Type 0} (R : X → X → Ordering) where
  -- An item x is added, or refused exactly where the memory is full; then every cell is as it was, and so are the items.
  abbrev pub Pushed : {U F : Type 0} → List X → List X → X → Result U F → List X → List X → Type 0
  Pushed cells items x (Ok u) cells' items' = (length items < length cells) × Lies R cells items cells' items' (x ∷ []) []
  Pushed cells items x (Err e) cells' items' = (length items ≡ length cells) × (cells' ≡ cells) × (items' ≡ items)

  -- The item in front; none exactly where there are no items. In heap order it comes after no other.
  abbrev pub Fronts : List X → Option X → Type 0
  Fronts items None = items ≡ []
  Fronts items (Some x) = (0 < length items) × ((d : X) → x ≡ slice_index_or items 0 d) × (Heaped R items → First R x items)

  -- The item in front is taken away; where there is none, every cell is as it was, and there are still no items.
  abbrev pub Popped : List X → List X → Option X → List X → List X → Type 0
  Popped cells items None cells' items' = Fronts items None × (cells' ≡ cells) × (items' ≡ items)
  Popped cells items (Some x) cells' items' = Fronts items (Some x) × Lies R cells items cells' items' [] (x ∷ [])
