-- Orders by counting, and the check of an order.
use Rattle.std.proofs.Common.{◌≡◌, ◌==◌, ℕ, ◌+◌, ◌-◌, ◌<◌, ◌≤◌, Bool, false, cond, not, List, [], ◌∷◌, ◌++◌, length, get_or, take, Decides, refl, eqb, ltb, arith}
use Rattle.std.specs.List.{range_with_len, IsAnyAnswer, IsDistinct, All, list_any}
use Rattle.std.proofs.lemmas.Bool.Decides.{nat_tests, same_from_decides, Decides-eqb}
use Rattle.std.proofs.lemmas.Cmp.{nat_eq_equiv}
use Rattle.std.proofs.lemmas.Grind.{common_steps}
use Rattle.std.proofs.lemmas.List.Elements.{All-from_recursion, All-from_get_or, All-push, All-contains, contains_decides, Decides-contains}
use Rattle.std.proofs.lemmas.List.Folds.{list_any_at, list_any_none}
use Rattle.std.proofs.lemmas.List.FromFn.{length-range_with_len, get_or-range_with_len}
use Rattle.std.proofs.lemmas.List.Recursion.{is_sum_by}
use Rattle.std.proofs.lemmas.Map.Keys.{IsDistinct-head, IsDistinct-tail, IsDistinct-push, IsDistinct-from_apart}
use Rattle.std.proofs.lemmas.Map.Made.{length-le_from_is_member, is_member-Decides}
use Rattle.std.proofs.lemmas.Map.Steps.{le-length_from_below}
use Rattle.model.specs.declared.refusal.Refusal.{Refusal}
use Rattle.model.specs.Orders.{times, Listed, Order, Fresh, Misnamed}

-- a job stands in a list where it is counted
stands : (j : ℕ) (o : List ℕ) → list_any (eqb j) o ≡ ltb 0 (times j o)
stands j [] = refl
stands j (k ∷ o) = grind (arith, nat_tests, stands j o)

-- in a list without repeats it is counted once
times_distinct : (j : ℕ) (o : List ℕ) → IsDistinct eqb o → times j o ≤ 1
times_distinct j [] d = omega arith
times_distinct j (k ∷ o) d =
    grind (arith, nat_tests, stands, list_any_none (eqb k) o, All-from_recursion (λ y. eqb k y ≡ false) o, IsDistinct-head eqb k o d, times_distinct j o (IsDistinct-tail eqb k o d))

-- fresh entries are without repeats
fresh_distinct : (n : ℕ) (o : List ℕ) → ((k : ℕ) → k < length o → Fresh n o k) → IsDistinct eqb o
fresh_distinct n o f = IsDistinct-from_apart eqb o (λ i j d l h. grind (arith, nat_tests, common_steps, (f j h).new, stands, list_any_at (eqb (get_or o j 0)) (take j o) i 0))

-- jobs from 1 to n without repeats are n at most
short : (n : ℕ) (o : List ℕ) → All (Listed n) o → IsDistinct eqb o → length o ≤ n
short n o l d =
    let most = length-le_from_is_member nat_eq_equiv o (range_with_len 1 n) d (λ q m.
    grind (arith, nat_tests, All-contains (Listed n) o q l, is_member-Decides Decides-eqb o q, list_any_at (eqb q) (range_with_len 1 n) (q - 1) 0, length-range_with_len, get_or-range_with_len)) in
    omega (arith, length-range_with_len)

-- n jobs from 1 to n without repeats are an order
distinct_order : (n : ℕ) (o : List ℕ) → length o ≡ n → All (Listed n) o → IsDistinct eqb o → Order n o
distinct_order n o e l d = record {
  listed = l;
  once = λ j h.
      grind (arith, nat_tests, common_steps, stands, times_distinct, short n (o ++ j ∷ []) (All-push (Listed n) o j l h), IsDistinct-push nat_eq_equiv o j d);
}

-- n fresh entries are an order
pub fresh_order : (n : ℕ) (o : List ℕ) → length o ≡ n → ((k : ℕ) → k < n → Fresh n o k) → Order n o
fresh_order n o e f = distinct_order n o e (All-from_get_or (Listed n) o 0 (search (arith, f))) (fresh_distinct n o (search (arith, f)))

-- each entry of an order is fresh
pub order_fresh : (n : ℕ) (o : List ℕ) → Order n o → (i : ℕ) → i < length o → Fresh n o i
order_fresh n o r i h =
    let j = get_or o i 0 in
    search (arith, nat_tests, common_steps, is_sum_by (times j) (λ k. cond (j == k) 1 0) refl (λ _ _. refl), r.once j (r.listed i 0 h))

-- an order has one entry for each job
pub order_length : (n : ℕ) (o : List ℕ) → Order n o → length o ≡ n
order_length n o r = grind (arith, nat_tests, stands, r.once, short n o r.listed, fresh_distinct n o, order_fresh n o r, le-length_from_below (0 ∷ o) (n + 1))

-- what is misnamed is no order
pub misnamed_no_order : (n : ℕ) (o : List ℕ) (e : Refusal) → Misnamed n o e → Order n o → ⊥
misnamed_no_order n o e m h = grind (arith, order_length n o h, order_fresh n o h)

-- the entry at i is fresh exactly if it does not stand among the m = i entries before it
pub fresh_by_search : (n : ℕ) (o : List ℕ) (i m : ℕ) (r : Bool) → m ≡ i → Listed n (get_or o i 0)
    → IsAnyAnswer (λ y b. (y == get_or o i 0) ≡ b) (take m o) r → Decides (not r) (Fresh n o i)
fresh_by_search n o i m r q l s =
    let j = get_or o i 0 in
    let same = same_from_decides r (list_any (eqb j) (take m o)) (Decides-contains (take m o) j r (contains_decides eqb Decides-eqb (take m o) j r s)) (is_member-Decides Decides-eqb (take m o) j) in
    search (arith, nat_tests, stands)

-- the jobs in the order of their numbers
pub numbers_order : (n : ℕ) → Order n (range_with_len 1 n)
numbers_order n = distinct_order n (range_with_len 1 n) (length-range_with_len 1 n) (search (arith, length-range_with_len, get_or-range_with_len))
    (search (arith, IsDistinct-from_apart, nat_tests, length-range_with_len, get_or-range_with_len))
