use Rattle.std.proofs.Common.{rules}
use Rattle.std.proofs.lemmas.List.{take_all}
use Rattle.std.proofs.lemmas.Grind.{take_at_read}
use Rattle.frontier.proofs.Histories.{ran_more, run_balanced, run_once}
use Rattle.frontier.proofs.run.run_calls.Goals as goal

pub loop-call-preserved : goal.loop-call-preserved
loop-call-preserved g c = search (rules, ran_more, take_at_read)

pub returns : goal.returns
returns g c = search (rules, take_all, run_balanced, run_once)
