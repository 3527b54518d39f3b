use Rattle.std.proofs.Common.{vec_items, rules}
use Rattle.std.proofs.lemmas.List.{take_all, with_items_is}
use Rattle.frontier.proofs.Outcomes.{popped_row}
use Rattle.frontier.proofs.least_floor.calls.LeastFloorLineWaitingLine.take.Goals as goal

pub invariant_of-self-2 : goal.invariant_of-self-2
invariant_of-self-2 c =
    let l = c.args.self.now.room in
    search (rules, popped_row l.capacity (vec_items l.entries) c.pop-first.result (vec_items c.pop.new.self), take_all, with_items_is)

pub returns : goal.returns
returns c = search (rules, popped_row, take_all, with_items_is)
