-- What putting an entry into a room leaves.
use Rattle.std.specs.Prelude.{◌≡◌, ◌<◌, [], ◌∷◌, ◌++◌, Ok, Err, Result, vec_items, vec_len}
use Rattle.heap.specs.declared.Full.{Full}
use Rattle.frontier.specs.declared.entry.Entry.{Entry}
use Rattle.frontier.specs.declared.room.Room.{Room}

-- The entry stands behind the others, or is refused, without change, exactly where there are as many as may be.
abbrev pub PutBehind : Room → Entry → Result (Unit {0}) Full → Room → Type 0
PutBehind r e (Ok u) r' = (vec_len r.entries < r.capacity) × (vec_items r'.entries ≡ vec_items r.entries ++ e ∷ []) × (r'.capacity ≡ r.capacity)
PutBehind r e (Err f) r' = (vec_len r.entries ≡ r.capacity) × (r' ≡ r)
