-- What a list of calls on a waiting line answers and leaves.
use Rattle.std.specs.Prelude.{◌≡◌, List, [], ◌∷◌, ◌++◌, Some, None, Ok, Err}
use Rattle.std.specs.List.{flat_map}
use Rattle.frontier.specs.declared.entry.Entry.{Entry}
use Rattle.frontier.specs.declared.run.Call.{Call}
use Rattle.frontier.specs.declared.run.Call.TheVariants.{Add, Take}
use Rattle.frontier.specs.declared.run.Answer.{Answer}
use Rattle.frontier.specs.declared.run.Answer.TheVariants.{OfAdd, OfTake}
use Rattle.frontier.specs.Bags.{Bag, nothing, together, bag_of}
use Rattle.frontier.specs.Disciplines.{Discipline, Added, Taken, Determined}

-- A call on the state s answers a and leaves the state t.
abbrev pub Does : (d : Discipline) → Call → Answer → d.State → d.State → Type 0
Does d (Add e) (OfAdd r) s t = Added d s e r t
Does d (Add e) (OfTake r) s t = ⊥
Does d Take (OfAdd r) s t = ⊥
Does d Take (OfTake r) s t = Taken d s r t

-- So do the calls of a list, one after the other, with one answer for each call.
abbrev pub Ran : (d : Discipline) → List Call → List Answer → d.State → d.State → Type 0
Ran d [] [] s t = t ≡ s
Ran d [] (a ∷ rs) s t = ⊥
Ran d (c ∷ cs) [] s t = ⊥
Ran d (c ∷ cs) (a ∷ rs) s t = (m : d.State) × Does d c a s m × Ran d cs rs m t

-- What one call and its answer added to the line, and what the answer took from it.
abbrev pub entry_added : Call → Answer → List Entry
entry_added (Add e) (OfAdd (Ok u)) = e ∷ []
entry_added (Add e) (OfAdd (Err f)) = []
entry_added (Add e) (OfTake r) = []
entry_added Take a = []

abbrev pub entry_taken : Answer → List Entry
entry_taken (OfAdd r) = []
entry_taken (OfTake None) = []
entry_taken (OfTake (Some e)) = e ∷ []

-- The entries that were added and not refused, and those that were taken, over all calls.
abbrev pub all_added : List Call → List Answer → List Entry
all_added [] rs = []
all_added (c ∷ cs) [] = []
all_added (c ∷ cs) (a ∷ rs) = entry_added c a ++ all_added cs rs

abbrev pub all_taken : List Answer → List Entry
all_taken rs = flat_map entry_taken rs

-- Nothing is lost and nothing comes from nowhere: what was in the line and what was added is what is in the line now and what was taken.
-- From an empty line, the line holds what was added and not taken.
pub record Balanced (before : Bag) (cs : List Call) (rs : List Answer) (after : Bag) : Type 0 where
  pub kept : together before (bag_of (all_added cs rs)) ≡ together after (bag_of (all_taken rs))
  pub from_empty : before ≡ nothing → bag_of (all_added cs rs) ≡ together after (bag_of (all_taken rs))

-- Where nothing is left open, no other answers can come, and nothing else can be left.
abbrev pub OnlyRun : (d : Discipline) → List Call → List Answer → d.State → d.State → Type 0
OnlyRun d cs rs s t = Determined d → (qs : List Answer) (u : d.State) → Ran d cs qs s u → (qs ≡ rs) × (u ≡ t)
