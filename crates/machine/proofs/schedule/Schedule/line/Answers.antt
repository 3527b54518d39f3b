use Rattle.std.proofs.Common.{rules}
use Rattle.std.proofs.lemmas.List.{get_or_default}
use Rattle.machine.proofs.Text.{line_short}
use Rattle.machine.proofs.schedule.Schedule.line.Goals as goal

pub returns : goal.returns
returns c = search (rules, line_short, get_or_default)
