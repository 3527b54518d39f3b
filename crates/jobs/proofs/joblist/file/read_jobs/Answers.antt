use Rattle.std.proofs.lemmas.Result.{err_from_is_err_and}
use Rattle.jobs.specs.Files.{faulty}
use Rattle.jobs.proofs.Reading.{fault_next}
use Rattle.jobs.proofs.joblist.file.read_jobs.Goals as goal

pub returns-in_err-job-clause-answer : goal.returns-in_err-job-clause-answer
returns-in_err-job-clause-answer g c =
    let p = err_from_is_err_and c.from_residual.result c.from_residual.ensures.1 in
    rw (p.1, p.2) (faulty (fault_next _ _ _ _ _ c.loop-index.invariant.0 _ _ c.loop-index-test.true g.met.J.Job.lawful c.decode.ensures c.in_err-job.ensures))
