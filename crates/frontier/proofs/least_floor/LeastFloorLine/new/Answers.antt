use Rattle.frontier.proofs.Leading.{compared}
use Rattle.frontier.proofs.least_floor.LeastFloorLine.new.Goals as goal

pub returns-in_err-room-clause-ordered : goal.returns-in_err-room-clause-ordered
returns-in_err-room-clause-ordered c = compared

pub returns-clause-ordered : goal.returns-clause-ordered
returns-clause-ordered c = compared
