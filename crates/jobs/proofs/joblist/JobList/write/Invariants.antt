use Rattle.std.proofs.Common.{◌≡◌, map, take, vec_items}
use Rattle.jobs.specs.Files.{file_of}
use Rattle.jobs.proofs.joblist.JobList.write.Given as goal

abbrev pub invariant-loop-job : goal.invariant-loop-job
invariant-loop-job g l = vec_items l.bytes ≡ file_of (map g.J.Job.row (take l.job-index (vec_items l.self.jobs)))
