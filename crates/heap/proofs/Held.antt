-- What a heap holds after `push` and `pop`.
use Rattle.std.proofs.Common.{◌≡◌, ℕ, ◌+◌, ◌-◌, ◌≤◌, List, [], ◌∷◌, ◌++◌, length, get_or, take, drop, Option, Result, Ordering, arith, length-take}
use Rattle.std.specs.List.Sorted.{IsPermutation}
use Rattle.std.proofs.lemmas.List.{length_push, get_or_append_left, get_or-append_right, get_or-drop, take_at, take_more, take_all, append_assoc, get_or-take}
use Rattle.std.proofs.lemmas.List.Sorted.{IsPermutation-refl, IsPermutation-trans, IsPermutation-append_comm, IsPermutation-push_more}
use Rattle.heap.specs.Order.{Heaped}
use Rattle.heap.specs.Calls.{Pushed, Popped}
use Rattle.heap.specs.Sifting.{Rises, Mends}

-- ys is xs with the items at a and b in each other's place
abbrev pub Swapped : {X : Type 0} → List X → List X → ℕ → ℕ → Type 0
Swapped {X} xs ys a b = ((d : X) → get_or ys a d ≡ get_or xs b d) × ((d : X) → get_or ys b d ≡ get_or xs a d) × ((m : ℕ) (d : X) → (m ≡ a → ⊥) → (m ≡ b → ⊥) → get_or ys m d ≡ get_or xs m d)

module _ {X : Type 0} (R : X → X → Ordering) where
  -- a new item behind those in heap order, which then rises
  pub taken_in : (xs : List X) (x : X) (ys zs : List X) (n : ℕ) → n ≡ length xs → ys ≡ xs ++ x ∷ [] → IsPermutation ys zs → Rises R ys n zs → IsPermutation (x ∷ xs) zs × (Heaped R xs → Heaped R zs)
  taken_in xs x ys zs n e is s rises = (
    IsPermutation-trans _ _ _ (IsPermutation-append_comm (x ∷ []) xs) (rw is at s),
    λ h. unfold Rises in rises (λ p k d. grind (arith, length_push, get_or_append_left, h (k - 1) d), grind (arith, length_push)) (grind (arith, length_push)),
  )

  -- the first item changes places with the last, and the new first sinks
  pub given_out : (xs ys part zs : List X) (x : X) (n : ℕ) → n + 1 ≡ length xs → ((d : X) → x ≡ get_or xs 0 d) → length ys ≡ length xs → IsPermutation xs ys → Swapped xs ys 0 n → part ≡ take n ys → IsPermutation part zs → Mends R part zs → IsPermutation xs (x ∷ zs) × (Heaped R xs → Heaped R zs)
  given_out xs ys part zs x n e head long s w is t mends =
      let whole : ys ≡ part ++ x ∷ [] = grind (arith, take_more ys n x, take_all (n + 1) ys) in (
        IsPermutation-trans _ _ _ (rw whole at s) (IsPermutation-push_more part zs _ x t (IsPermutation-refl _)),
        λ h. unfold Mends in mends (λ p k d. grind (arith, length-take, get_or-take, h (k - 1) d), grind arith),
      )

-- the first items of a list, by how many there are
pub take_held : {X : Type 0} (xs : List X) (m n : ℕ) → n ≡ length (take m xs) → take n xs ≡ take m xs
take_held xs m n e = grind (arith, length-take, take_all)

-- the first part of a list of parts
pub take_front : {X : Type 0} (zs mid rest : List X) (n : ℕ) → length zs ≡ n → take n ((zs ++ mid) ++ rest) ≡ zs
take_front zs mid rest n e = grind (arith, append_assoc, take_at)

-- what stands behind a part that was written anew
pub behind : {X : Type 0} (zs xs : List X) (n m k : ℕ) (d : X) → length zs ≡ n → m ≡ n → n ≤ k → get_or (zs ++ drop m xs) k d ≡ get_or xs k d
behind zs xs n m k d e f h = grind (arith, get_or-append_right, get_or-drop)

-- for a user of the heap: heap order and the memory's length outlast every call, refused or not
module _ {X : Type 0} (R : X → X → Ordering) where
  pub pushed_keeps : {U F : Type 0} (cells items cells' items' : List X) (x : X) (r : Result U F) → Heaped R items → Pushed R cells items x r cells' items' → Heaped R items' × (length cells' ≡ length cells)
  pushed_keeps cells items cells' items' x r h f = grind arith

  pub popped_keeps : (cells items cells' items' : List X) (r : Option X) → Heaped R items → Popped R cells items r cells' items' → Heaped R items' × (length cells' ≡ length cells)
  popped_keeps cells items cells' items' r h f = grind arith
