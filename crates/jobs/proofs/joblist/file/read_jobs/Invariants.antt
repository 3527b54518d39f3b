use Rattle.std.proofs.Common.{◌≡◌, map, take, vec_items, vec_len}
use Rattle.records.specs.Bytes.{fields_of}
use Rattle.jobs.proofs.joblist.file.read_jobs.Given as goal

abbrev pub invariant-loop-index : goal.invariant-loop-index
invariant-loop-index g l =
    (map g.J.Job.row (vec_items l.jobs) ≡ map fields_of (take l.index l.records))
    × (vec_len l.jobs ≡ l.index)
