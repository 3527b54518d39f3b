-- The order of entries: the least floor first, and among equals the smallest place.
use Rattle.std.specs.Prelude.{◌≡◌, ℕ, ◌<◌, ◌≤◌, ◌⊎◌, List}
use Rattle.std.specs.declared.cmp.Ordering.{Ordering}
use Rattle.std.specs.Cmp.{IsTotalOrder, nat_cmp_total}
use Rattle.std.specs.Ordering.{nat_cmp}
use Rattle.heap.specs.Order.{Heaped}
use Rattle.heap.specs.TwoKeys.{two_keys_cmp, by_keys}
use Rattle.frontier.specs.declared.entry.Entry.{Entry}

abbrev pub floor_of : Entry → ℕ
floor_of e = e.floor

abbrev pub place_of : Entry → ℕ
place_of e = e.place

-- What a comparison of two entries answers.
abbrev pub entry_cmp : Entry → Entry → Ordering
entry_cmp = two_keys_cmp nat_cmp nat_cmp floor_of place_of

-- That is a total order.
abbrev pub by_floor : IsTotalOrder entry_cmp
by_floor = by_keys nat_cmp_total nat_cmp_total floor_of place_of

-- R compares entries just so, and is a total order.
pub record ByFloor (R : Entry → Entry → Ordering) : Type 0 where
  pub same : (x y : Entry) → R x y ≡ entry_cmp x y
  pub total : IsTotalOrder R

-- The entries lie in heap order.
abbrev pub InOrder : List Entry → Type 0
InOrder xs = Heaped entry_cmp xs

-- x has a lesser floor than y, or the same floor and no greater place.
abbrev pub Precedes : Entry → Entry → Type 0
Precedes x y = (x.floor < y.floor) ⊎ ((x.floor ≡ y.floor) × (x.place ≤ y.place))
