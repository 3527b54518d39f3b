-- From what a heap leaves to what the least-floor line means.
use Rattle.std.proofs.Common.{◌≡◌, ℕ, ◌-◌, ◌<◌, List, [], ◌∷◌, ◌++◌, length, take, Some, None, Ok, Err, Option, Result, MatchOption, IsSomeAnd, arith, length-take}
use Rattle.std.proofs.lemmas.List.{length_push, take_all}
use Rattle.std.proofs.lemmas.List.Sorted.{length_permutation}
use Rattle.heap.specs.declared.Full.{Full}
use Rattle.heap.specs.declared.Heap.{Heap}
use Rattle.heap.specs.Items.{cells, items}
use Rattle.heap.specs.Calls.{Pushed, Popped, Fronts}
use Rattle.heap.proofs.Held.{take_held}
use Rattle.frontier.specs.declared.entry.Entry.{Entry}
use Rattle.frontier.specs.Order.{entry_cmp, InOrder}
use Rattle.frontier.specs.Bags.{bag_of, Least}
use Rattle.frontier.specs.Disciplines.{Added, Taken}
use Rattle.frontier.specs.Named.{least_first, Held}
use Rattle.frontier.proofs.Counts.{bag_shuffled, stands}
use Rattle.frontier.proofs.Leading.{leads}

-- the state of a line of some capacity that holds these entries
abbrev pub held : ℕ → List Entry → Held
held n es = record { capacity = n; bag = bag_of es }

-- After a push onto a heap of all cells but the last, all cells are items.
pub pushed_row : (n m : ℕ) (xs : List Entry) (e : Entry) (r : Result (Unit {0}) Full) (zs : List Entry) (h z : Heap Entry)
    → m ≡ n → items h ≡ xs → cells h ≡ xs ++ e ∷ [] → Pushed entry_cmp (cells h) (items h) e r (cells z) (items z) → zs ≡ cells z → length xs < n → InOrder xs → InOrder zs × Added least_first (held n xs) e r (held m zs)
pushed_row n m xs e (Err u) zs h z fixed some all f back room ordered = grind (arith, length_push)
pushed_row n m xs e (Ok u) zs h z fixed some all f back room ordered =
    let g = rw some at f.1 in
    let same : zs ≡ items z = grind (arith, length_push, take_all, length-take, length_permutation (e ∷ xs) (items z) g.bag) in
    rw same (g.heaped ordered, (room, cc (bag_shuffled (e ∷ xs) (items z) g.bag)))

-- After a pop from a heap of all cells, all cells but the last are items.
pub popped_row : (n : ℕ) (xs : List Entry) (r : Option Entry) (ys : List Entry) (h z : Heap Entry)
    → items h ≡ xs → cells h ≡ xs → Popped entry_cmp (cells h) (items h) r (cells z) (items z) → ys ≡ take (length xs - 1) (cells z) → InOrder xs → InOrder ys × Taken least_first (held n xs) r (held n ys)
popped_row n xs None ys h z some all f rest ordered =
    let same : xs ≡ ys = grind arith in
    rw (← same) (ordered, grind arith)
popped_row n xs (Some e) ys h z some all f rest ordered =
    let g = rw some at f in
    let same : ys ≡ items z = grind (arith, take_held, length_permutation xs (e ∷ items z) g.1.bag) in
    rw same (g.1.heaped ordered, (cc (bag_shuffled xs (e ∷ items z) g.1.bag), leads e xs (g.0.2 ordered)))

-- After a push onto the first k cells of a memory, the first m are in order, the memory is as long, and the line that it is for has added what it means to add.
pub pushed_line : (n k m : ℕ) (xs rs ws : List Entry) (e : Entry) (r : Result (Unit {0}) Full) → rs ≡ xs → length rs ≡ n → InOrder (take k xs) → Pushed entry_cmp rs (take k rs) e r ws (take m ws)
    → InOrder (take m ws) × (length ws ≡ n) × Added least_first (held n (take k xs)) e r (held n (take m ws))
pushed_line n k m xs rs ws e (Err u) same long h f = grind arith
pushed_line n k m xs rs ws e (Ok u) same long h f =
    let g = rw same at f in
    (g.1.heaped h, grind arith, (grind arith, cc (bag_shuffled (e ∷ take k xs) (take m ws) g.1.bag)))

-- After a pop from the first k cells of a memory, the first m are in order, the memory is as long, and the line has taken what it means to take.
pub popped_line : (n k m : ℕ) (xs rs ws : List Entry) (r : Option Entry) → rs ≡ xs → length rs ≡ n → InOrder (take k xs) → Popped entry_cmp rs (take k rs) r ws (take m ws)
    → InOrder (take m ws) × (length ws ≡ n) × Taken least_first (held n (take k xs)) r (held n (take m ws))
popped_line n k m xs rs ws None same long h f = grind arith
popped_line n k m xs rs ws (Some e) same long h f =
    let g = rw same at f in
    (g.1.heaped h, grind arith, (cc (bag_shuffled (take k xs) (e ∷ take m ws) g.1.bag), leads e (take k xs) (g.0.2 h)))

-- the entry in front has the least floor
pub front_least : (es : List Entry) (r : Option Entry) (s : Option ℕ) → InOrder es → Fronts entry_cmp es r → MatchOption r (s ≡ None) (λ x. IsSomeAnd s (λ n. n ≡ x.floor)) → Least (bag_of es) s
front_least es (Some e) (Some n) h f is = grind (arith, stands es 0 e, leads e es (f.2 h))
front_least es r s h f is = grind arith
