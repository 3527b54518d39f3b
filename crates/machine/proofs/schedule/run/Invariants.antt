use Rattle.std.proofs.Common.{vec_items}
use Rattle.machine.specs.Rows.{rows_of}
use Rattle.machine.proofs.Progress.{Progress}
use Rattle.machine.proofs.schedule.run.Given as goal

abbrev pub invariant-loop-job : goal.invariant-loop-job
invariant-loop-job l = Progress (rows_of (vec_items l.list.jobs)) l.order l.job-index (vec_items l.slots) l.free l.worth
