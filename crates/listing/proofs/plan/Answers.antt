use Rattle.std.proofs.Common.{rules}
use Rattle.listing.proofs.Plans.{read_plan}
use Rattle.listing.proofs.plan.Goals as goal

pub returns : goal.returns
returns c = search (rules, read_plan, rw c.new.ensures at c.schedule.ensures)
