use Rattle.std.proofs.lemmas.Result.{err_from_is_err_and}
use Rattle.std.proofs.lemmas.List.{length-map}
use Rattle.machine.specs.Schedule.{misnamed}
use Rattle.machine.proofs.one_machine.OneMachine.schedule.Goals as goal

pub returns-in_err-check_order : goal.returns-in_err-check_order
returns-in_err-check_order c =
    let p = err_from_is_err_and c.from_residual.result c.from_residual.ensures.1 in
    rw (p.1, p.2, length-map) (misnamed (rw (c.count.ensures, c.args.self.now.list.jobs.ok.0) at c.in_err-check_order.ensures.answer))
