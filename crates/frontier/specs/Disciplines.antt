-- What a waiting line means, whatever entry it takes first.
use Rattle.std.specs.Prelude.{◌≡◌, ℕ, ◌<◌, Some, None, Ok, Err, Option, Result}
use Rattle.heap.specs.declared.Full.{Full}
use Rattle.frontier.specs.declared.entry.Entry.{Entry}
use Rattle.frontier.specs.Bags.{Bag, nothing, put}

-- The states of a line, and the bag and the capacity of each.
-- Left open are what an addition leaves, and which entry a taking gives and what it leaves; a named line fills both in.
-- Certain for every line: the bag has one entry more, or less, and the capacity stays.
pub record Discipline : Type 1 where
  pub State : Type 0
  pub bag : State → Bag
  pub capacity : State → ℕ
  -- Adding the entry to the state s leaves the state t.
  pub Adds : State → Entry → State → Type 0
  -- Taking from the state s gives the entry and leaves the state t.
  pub Takes : State → Entry → State → Type 0
  pub added : (s : State) (e : Entry) (t : State) → Adds s e t → (bag t ≡ put e (bag s)) × (capacity t ≡ capacity s)
  pub taken : (s : State) (e : Entry) (t : State) → Takes s e t → (bag s ≡ put e (bag t)) × (capacity t ≡ capacity s)

-- An entry is added, or refused, without change, exactly where the line holds its capacity.
abbrev pub Added : (d : Discipline) → d.State → Entry → Result (Unit {0}) Full → d.State → Type 0
Added d s e (Ok u) t = ((d.bag s).size < d.capacity s) × d.Adds s e t
Added d s e (Err f) t = ((d.bag s).size ≡ d.capacity s) × (t ≡ s)

-- One entry is taken; none exactly where the line is empty, and then nothing changes.
abbrev pub Taken : (d : Discipline) → d.State → Option Entry → d.State → Type 0
Taken d s None t = (d.bag s ≡ nothing) × (t ≡ s)
Taken d s (Some e) t = d.Takes s e t

-- Nothing is left open: what an addition leaves is one, and so are the entry that a taking gives and what it leaves.
pub record Determined (d : Discipline) : Type 0 where
  pub adds : (s : d.State) (e : Entry) (t u : d.State) → d.Adds s e t → d.Adds s e u → u ≡ t
  pub takes : (s : d.State) (e f : Entry) (t u : d.State) → d.Takes s e t → d.Takes s f u → (f ≡ e) × (u ≡ t)
