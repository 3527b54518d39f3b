use Rattle.std.proofs.Common.{refl, rules}
use Rattle.std.proofs.lemmas.List.{length-map}
use Rattle.model.proofs.Naming.{order_length}
use Rattle.machine.proofs.Progress.{progress_more, progress_all}
use Rattle.machine.proofs.schedule.run.Goals as goal

pub loop-job-init : goal.loop-job-init
loop-job-init c = search (rules, order_length _ _ c.requires)

pub loop-job-preserved : goal.loop-job-preserved
loop-job-preserved c =
    rw (c.in_ok-push.ensures.items, c.max-worth.ensures) (progress_more _ _ _ _ _ _ c.row_at-row.result _ c.loop-job-test.true (cc) c.row_at-row.ensures.low c.loop-job.invariant refl c.max-start.ensures refl)

pub returns : goal.returns
returns c = search (rules, progress_all, length-map)
