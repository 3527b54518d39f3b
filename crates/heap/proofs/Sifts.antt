-- What sifting keeps, and what stands in front in heap order.
use Rattle.std.proofs.Common.{◌≡◌, ℕ, zero, suc, ◌+◌, ◌-◌, ◌*◌, ◌/◌, ◌<◌, ◌≤◌, false, List, length, get_or, Ordering, arith}
use Rattle.std.specs.Cmp.{IsTotalOrder}
use Rattle.std.proofs.lemmas.Cmp.{upto}
use Rattle.std.proofs.lemmas.List.Elements.{All-from_get_or}
use Rattle.heap.specs.Order.{after, Heaped, First}
use Rattle.heap.specs.Sifting.{Over, Gap}

module _ {X : Type 0} (R : X → X → Ordering) where
  -- the item that began at j₀ in xs has risen to j in ys
  abbrev pub Rising : List X → ℕ → List X → ℕ → Type 0
  Rising xs j₀ ys j = Gap R xs j₀ → Over R xs j₀ j₀ → Gap R ys j × Over R ys j j

  -- the item that began in front of xs has sunk to j in ys, where its parent does not come after it
  abbrev pub Sinking : List X → List X → ℕ → Type 0
  Sinking xs ys j = Gap R xs 0 → Gap R ys j × ((p : ℕ) (d : X) → p * 2 + 1 ≤ j → j ≤ p * 2 + 2 → after R (get_or ys p d) (get_or ys j d) ≡ false)

module _ {X : Type 0} {R : X → X → Ordering} (o : IsTotalOrder R) where
  top : (xs : List X) (d : X) → Heaped R xs → (fuel k : ℕ) → k ≤ fuel → k < length xs → after R (get_or xs 0 d) (get_or xs k d) ≡ false
  top xs d h zero k a b = grind (arith, o.antisymm)
  top xs d h (suc fuel) k a b = grind (arith, o.antisymm, top xs d h fuel ((k - 1) / 2), h (k - 1) d, upto o)

  -- the item in front comes after none
  pub first : (xs : List X) (x : X) → ((d : X) → x ≡ get_or xs 0 d) → Heaped R xs → First R x xs
  first xs x e h = All-from_get_or (λ y. after R x y ≡ false) xs x (search (arith, e x, top xs x h))
