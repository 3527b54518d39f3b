-- Total orders by two keys: items compare by the first, and where these are equal by the second.
use Rattle.std.specs.declared.cmp.Ordering.{Ordering}
use Rattle.std.specs.Cmp.{IsTotalOrder, back_total, on_total, then_total}
use Rattle.std.specs.Ordering.{flip_args, on, then_cmp}

-- The order the other way round.
abbrev pub turned : {K : Type 0} {P : K → K → Ordering} → IsTotalOrder P → IsTotalOrder (flip_args P)
turned o = back_total o

-- The answer that a comparison of two items gives.
abbrev pub two_keys_cmp : {X K L : Type 0} → (K → K → Ordering) → (L → L → Ordering) → (X → K) → (X → L) → X → X → Ordering
two_keys_cmp P Q first second = then_cmp (on first P) (on second Q)

abbrev pub by_keys : {X K L : Type 0} {P : K → K → Ordering} {Q : L → L → Ordering} → IsTotalOrder P → IsTotalOrder Q → (first : X → K) (second : X → L) → IsTotalOrder (two_keys_cmp P Q first second)
by_keys o p first second = then_total (on_total first o) (on_total second p)
