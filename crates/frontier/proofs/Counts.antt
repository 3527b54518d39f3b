-- Bags of entries by counting.
use Rattle.std.proofs.Common.{◌≡◌, ltb, ℕ, ◌+◌, ◌<◌, ◌≤◌, cond, List, [], ◌∷◌, ◌++◌, reverse, length, get_or, take, min, unwrap_or, Some, Option, IsNone, IfSome, sym, refl, arith}
use Rattle.std.specs.List.Sorted.{IsPermutation}
use Rattle.std.specs.Prelude.{All, ◌↔◌}
use Rattle.std.specs.List.{Any, sum_by}
use Rattle.std.proofs.lemmas.List.{take_more}
use Rattle.std.proofs.lemmas.List.Elements.{All-head, All-tail}
use Rattle.std.proofs.lemmas.List.Recursion.{is_sum_by}
use Rattle.std.proofs.lemmas.List.Sorted.{length_permutation, sum_by-IsPermutation, IsPermutation-reverse}
use Rattle.std.proofs.lemmas.List.Sums.{sum_by-append, get_or-le-sum_by}
use Rattle.std.proofs.lemmas.Bool.Decides.{nat_tests}
use Rattle.frontier.specs.declared.entry.Entry.{Entry}
use Rattle.frontier.specs.Bags.{same, times, bag_of, Holds, Least}

-- how often an entry stands in a list is a sum
times_sum : (x : Entry) (es : List Entry) → times x es ≡ sum_by (λ y. cond (same x y) 1 0) es
times_sum x = is_sum_by (times x) (λ y. cond (same x y) 1 0) refl (λ _ _. refl)

-- lists with the same elements are one bag
pub bag_shuffled : (xs ys : List Entry) → IsPermutation xs ys → bag_of xs ≡ bag_of ys
bag_shuffled xs ys s = grind (arith, length_permutation, times_sum, sum_by-IsPermutation)

pub times_append : (x : Entry) (es fs : List Entry) → times x (es ++ fs) ≡ times x es + times x fs
times_append x es fs = simp (times_sum, sum_by-append)

pub bag_reverse : (es : List Entry) → bag_of (reverse es) ≡ bag_of es
bag_reverse es = sym (bag_shuffled es _ (IsPermutation-reverse es))

-- what holds of every entry of a list holds of what is in its bag
pub holds_all : (P : Entry → Type 0) (es : List Entry) → All P es → (x : Entry) → Holds (bag_of es) x → P x
holds_all P [] h x u = grind arith
holds_all P (e ∷ es) h x u = grind (arith, nat_tests, holds_all P es, All-head P e es, All-tail P e es)

-- an entry that stands in a list is in its bag
pub stands : (es : List Entry) (k : ℕ) (x : Entry) → k < length es → get_or es k x ≡ x → Holds (bag_of es) x
stands es k x l h = grind (arith, nat_tests, times_sum x, get_or-le-sum_by)

-- the least floor of a list is that of its bag
pub least_told : (es : List Entry) (r : Option ℕ) → IsNone r ↔ (es ≡ []) → IfSome r (λ n. Any (λ e. e.floor ≡ n) es) → IfSome r (λ n. All (λ e. n ≤ e.floor) es) → Least (bag_of es) r
least_told es r none some all = grind (arith, holds_all (λ e. IfSome r (λ n. n ≤ e.floor)) es, stands)

-- a loop's step: the lesser of the least floor of the entries before an index and the floor of the entry there is the least floor up to there
pub least_more : (es : List Entry) (i : ℕ) (d : Entry) (r : Option ℕ) (m n : ℕ) → i < length es → Least (bag_of (take i es)) r → m ≡ unwrap_or r (get_or es i d).floor → n ≡ min m (get_or es i d).floor → Least (bag_of (take (i + 1) es)) (Some n)
least_more es i d (Some k) m n l h p q = rw (take_more es i d) (grind (arith, nat_tests, times_append), (cond (ltb k (get_or es i d).floor) h.1.0 (get_or es i d), grind (arith, nat_tests, times_append), grind (arith, nat_tests)))
least_more es i d r m n l h p q = grind (arith, nat_tests, take_more es i d, times_append)
