-- The states of the two lines.
use Rattle.std.specs.Prelude.{reverse, vec_items}
use Rattle.frontier.specs.declared.least_floor.LeastFloorLine.{LeastFloorLine}
use Rattle.frontier.specs.declared.newest_first.NewestFirstLine.{NewestFirstLine}
use Rattle.frontier.specs.Bags.{bag_of}
use Rattle.frontier.specs.Named.{Held, Row}

-- The entries that wait, and how many may.
abbrev pub held_by : LeastFloorLine → Held
held_by l = record { capacity = l.room.capacity; bag = bag_of (vec_items l.room.entries) }

-- The row has its entries in order of arrival.
abbrev pub row_of : NewestFirstLine → Row
row_of l = record { capacity = l.room.capacity; entries = reverse (vec_items l.room.entries) }
