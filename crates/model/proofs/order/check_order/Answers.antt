use Rattle.std.proofs.Common.{refl, rules}
use Rattle.model.specs.Orders.{not_one_each, bad_entry}
use Rattle.model.proofs.Naming.{fresh_order, misnamed_no_order}
use Rattle.model.proofs.order.check_order.Goals as goal

pub returns-then-order-jobs : goal.returns-then-order-jobs
returns-then-order-jobs c =
    let m = not_one_each c.if-order-jobs.true refl in
    record { answer = m; exact = search (rules, misnamed_no_order _ _ _ m) }

pub returns-in-Some : goal.returns-in-Some
returns-in-Some c =
    let m = bad_entry c.in-Some.index c.if-order-jobs.false c.in-Some.ensures refl in
    record { answer = m; exact = search (rules, misnamed_no_order _ _ _ m) }

pub returns-in-None : goal.returns-in-None
returns-in-None c = search (rules, fresh_order)
