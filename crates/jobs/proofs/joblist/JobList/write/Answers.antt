use Rattle.std.proofs.Common.{arith}
use Rattle.std.proofs.lemmas.Grind.{common_steps}
use Rattle.jobs.proofs.Reading.{read_back}
use Rattle.jobs.proofs.joblist.JobList.write.Goals as goal

pub returns-clause-read_back : goal.returns-clause-read_back
returns-clause-read_back g c = read_back _ _ g.met.J.Job.shaped g.met.J.Job.lawful g.met.J.Job.same _ _ (grind arith) (grind (arith, common_steps))
