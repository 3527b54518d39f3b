use Rattle.std.proofs.Common.{map, vec_items, arith}
use Rattle.std.proofs.lemmas.Bool.Decides.{nat_tests}
use Rattle.std.proofs.lemmas.Grind.{elements}
use Rattle.jobs.specs.Files.{Holds}
use Rattle.jobs.proofs.Reading.{file_held}
use Rattle.jobs.proofs.Refusing.{held_unrefused}
use Rattle.jobs.proofs.joblist.JobList.read.Goals as goal

pub returns : goal.returns
returns g c =
    let held : Holds g.J.Job.spans (map g.J.Job.row (vec_items c.in_ok-self.field-0)) c.args.bytes.now =
    file_held _ _ _ _ g.met.J.Job.lawful (search (arith, elements, c.type_inv.bytes)) (search (arith, nat_tests)) (grind (arith, nat_tests)) (cc c.in_ok-self.ensures.answer) in
    record { answer = held; only = λ f. held_unrefused _ _ _ f held }
