-- What the order by two keys says where the second is a number.
use Rattle.std.proofs.Common.{◌≡◌, ℕ, ◌<◌, ◌≤◌, false, ◌⊎◌, Ordering, arith}
use Rattle.std.specs.Ordering.{is_gt, ordering_then, MatchOrdering}

-- an item that does not come after another comes before it by the first key, or has the same first key and no greater second
pub not_after : (k l : Ordering) (P Q R : Type 0) (m n : ℕ) → MatchOrdering k P Q R → MatchOrdering l (m < n) (m ≡ n) (n < m) → is_gt (ordering_then k l) ≡ false → P ⊎ (Q × (m ≤ n))
not_after k l P Q R m n h g e = grind arith
