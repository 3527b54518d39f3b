use Rattle.std.proofs.Common.{vec_items, rules}
use Rattle.std.proofs.lemmas.List.{take_at, take_all, with_items_is}
use Rattle.frontier.proofs.Outcomes.{pushed_row}
use Rattle.frontier.proofs.least_floor.calls.LeastFloorLineWaitingLine.add.Goals as goal

pub invariant_of-self-3 : goal.invariant_of-self-3
invariant_of-self-3 c =
    let l = c.args.self.now.room in
    search (rules, pushed_row l.capacity c.add.new.self.capacity (vec_items l.entries) c.args.waiting c.push-added.result c.push-added.new.self.slots.now c.over.result c.push-added.new.self, take_at, with_items_is)

-- `take_all` is for a row that is cut to all that there is: an edit that cuts it short is refused for what it leaves
pub returns : goal.returns
returns c = search (rules, pushed_row, take_at, take_all, with_items_is)
