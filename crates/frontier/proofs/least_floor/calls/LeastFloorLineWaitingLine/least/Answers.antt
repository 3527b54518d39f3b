use Rattle.std.proofs.Common.{rules}
use Rattle.std.proofs.lemmas.List.{take_all}
use Rattle.frontier.proofs.Outcomes.{front_least}
use Rattle.frontier.proofs.least_floor.calls.LeastFloorLineWaitingLine.least.Goals as goal

pub returns : goal.returns
returns c = front_least _ c.front.result _ c.args.self.now.heaped (search (rules, take_all)) (search rules)
