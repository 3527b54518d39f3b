-- Lists of calls: what they add and take balances, and where nothing is left open they come out one way.
use Rattle.std.proofs.Common.{◌≡◌, ℕ, ◌+◌, List, [], ◌∷◌, ◌++◌, length, refl, arith}
use Rattle.std.proofs.lemmas.List.{length-append}
use Rattle.frontier.specs.declared.entry.Entry.{Entry}
use Rattle.frontier.specs.declared.run.Call.{Call}
use Rattle.frontier.specs.declared.run.Answer.{Answer}
use Rattle.frontier.specs.Bags.{times}
use Rattle.frontier.specs.Disciplines.{Discipline}
use Rattle.frontier.specs.Runs.{Does, Ran, entry_added, entry_taken, all_added, all_taken, Balanced, OnlyRun}
use Rattle.frontier.proofs.Counts.{times_append}

-- one call more
pub ran_more : (d : Discipline) (cs : List Call) (rs : List Answer) (s t u : d.State) (c : Call) (a : Answer) → Ran d cs rs s t → Does d c a t u → Ran d (cs ++ c ∷ []) (rs ++ a ∷ []) s u
ran_more d (b ∷ cs) (q ∷ rs) s t u c a r h = (r.0, r.1, ran_more d cs rs r.0 t u c a r.2 h)
ran_more d cs rs s t u c a r h = search arith

-- a measure of entries that balances at each call balances over all of them
module _ (d : Discipline) (size : d.State → ℕ) (f : List Entry → ℕ) (plus : (es fs : List Entry) → f (es ++ fs) ≡ f es + f fs) (none : f [] ≡ 0)
    (one : (c : Call) (a : Answer) (s t : d.State) → Does d c a s t → size s + f (entry_added c a) ≡ size t + f (entry_taken a)) where
  balances : (cs : List Call) (rs : List Answer) (s t : d.State) → Ran d cs rs s t → size s + f (all_added cs rs) ≡ size t + f (all_taken rs)
  balances (c ∷ cs) (a ∷ rs) s t r = grind (arith, plus, one, balances cs rs)
  balances cs rs s t r = grind arith

pub run_balanced : (d : Discipline) (cs : List Call) (rs : List Answer) (s t : d.State) → Ran d cs rs s t → Balanced (d.bag s) cs rs (d.bag t)
run_balanced d cs rs s t r =
    let sizes = balances d (λ v. (d.bag v).size) length length-append refl (λ c a u v h. grind (arith, d.added, d.taken)) cs rs s t r in
    let counts = λ (x : Entry). balances d (λ v. (d.bag v).count x) (times x) (times_append x) refl (λ c a u v h. grind (arith, d.added, d.taken)) cs rs s t r in
    grind arith

-- each call comes out one way
pub run_once : (d : Discipline) (cs : List Call) (rs : List Answer) (s t : d.State) → Ran d cs rs s t → OnlyRun d cs rs s t
run_once d (c ∷ cs) (a ∷ rs) s t r o (b ∷ qs) u q = grind (arith, o.adds, o.takes, d.taken, run_once d cs rs r.0 t r.2 o qs u)
run_once d cs rs s t r o qs u q = grind arith
