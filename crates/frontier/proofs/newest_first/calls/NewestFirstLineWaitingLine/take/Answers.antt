use Rattle.std.proofs.Common.{arith, ◌≡◌, ℕ, ◌+◌, List, ◌++◌, reverse, length, Some, None, Option, ap, MatchOption}
use Rattle.std.specs.Option.{option_to_list}
use Rattle.std.proofs.lemmas.List.{append-nil, nil_from_length, reverse-append}
use Rattle.frontier.specs.declared.entry.Entry.{Entry}
use Rattle.frontier.specs.Bags.{bag_of}
use Rattle.frontier.specs.Disciplines.{Taken}
use Rattle.frontier.specs.Named.{newest_first}
use Rattle.frontier.proofs.newest_first.calls.NewestFirstLineWaitingLine.take.Goals as goal

popped : (n : ℕ) (es fs : List Entry) (r : Option Entry) (k m : ℕ) → es ≡ fs ++ option_to_list r → k ≡ length es → MatchOption r ((k ≡ 0) × (m ≡ 0)) (λ _. m + 1 ≡ k) → Taken newest_first (record { capacity = n; entries = reverse es }) r (record { capacity = n; entries = reverse fs })
popped n es fs None k m h l z = grind (arith, append-nil, ap (λ (x : List Entry). bag_of (reverse x)) (nil_from_length es (omega arith)))
popped n es fs (Some e) k m h l z = grind (arith, reverse-append)

pub returns : goal.returns
returns c = popped _ _ _ _ _ _ c.pop.ensures.items c.args.self.now.room.entries.ok.0 c.pop.ensures.cases
