-- What a heap holds.
use Rattle.std.specs.Prelude.{◌≡◌, List, take}
use Rattle.heap.specs.declared.Heap.{Heap}

module _ {T : Type 0} where
  -- The memory, used or not.
  abbrev pub cells : Heap T → List T
  cells h = h.slots.now

  -- The items are the first `len` cells.
  abbrev pub items : Heap T → List T
  items h = take h.len (cells h)

  -- A heap lies over the memory over which it lay before; no type holds what ties a state to the one before it.
  abbrev pub SameMemory : Heap T → Heap T → Type 0
  SameMemory before after = after.slots.ghost_name ≡ before.slots.ghost_name
