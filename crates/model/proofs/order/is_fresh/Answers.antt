use Rattle.std.proofs.Common.{arith}
use Rattle.model.proofs.Naming.{fresh_by_search}
use Rattle.model.proofs.order.is_fresh.Goals as goal

pub returns-then-job-jobs : goal.returns-then-job-jobs
returns-then-job-jobs c = fresh_by_search _ _ _ _ _ (omega arith) c.if-job-jobs.true c.contains.ensures.cases
