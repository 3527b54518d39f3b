use Rattle.std.proofs.Common.{rules, vec_items}
use Rattle.frontier.proofs.Counts.{bag_reverse, least_told}
use Rattle.frontier.proofs.newest_first.calls.NewestFirstLineWaitingLine.least.Goals as goal

pub returns : goal.returns
returns c = rw (bag_reverse (vec_items c.args.self.now.room.entries), ← c.deref.ensures.value) (search (rules, least_told))
