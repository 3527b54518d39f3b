-- Bags of entries.
use Rattle.std.specs.Prelude.{◌≡◌, ℕ, suc, ◌+◌, ◌≤◌, Bool, cond, ◌&&◌, List, [], ◌∷◌, length, Some, None, Option, ◌==◌}
use Rattle.frontier.specs.declared.entry.Entry.{Entry}

-- Whether two entries have the same floor and place.
abbrev pub same : Entry → Entry → Bool
same x y = x.floor == y.floor && x.place == y.place

-- How often an entry stands in a list.
abbrev pub times : Entry → List Entry → ℕ
times x [] = 0
times x (e ∷ es) = cond (same x e) 1 0 + times x es

-- A bag: how many entries there are, and how often each of them is there.
pub record Bag : Type 0 where
  pub size : ℕ
  pub count : Entry → ℕ

-- The empty bag, a bag with one entry more, the entries of two bags together, and the bag of a list.
abbrev pub nothing : Bag
nothing = record { size = 0; count = λ _. 0 }

abbrev pub put : Entry → Bag → Bag
put e b = record { size = suc b.size; count = λ x. cond (same x e) 1 0 + b.count x }

abbrev pub together : Bag → Bag → Bag
together a b = record { size = a.size + b.size; count = λ x. a.count x + b.count x }

abbrev pub bag_of : List Entry → Bag
bag_of es = record { size = length es; count = λ x. times x es }

-- The entry x is in the bag.
abbrev pub Holds : Bag → Entry → Type 0
Holds b x = 1 ≤ b.count x

-- The least floor of a bag; none exactly where it is empty.
abbrev pub Least : Bag → Option ℕ → Type 0
Least b None = b ≡ nothing
Least b (Some n) = ((x : Entry) → Holds b x → n ≤ x.floor) × ((x : Entry) × Holds b x × (x.floor ≡ n))
