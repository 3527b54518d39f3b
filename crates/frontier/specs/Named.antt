-- The two named disciplines.
use Rattle.std.specs.Prelude.{◌≡◌, ℕ, List, ◌∷◌}
use Rattle.std.proofs.Common.{sym, ap}
use Rattle.frontier.specs.declared.entry.Entry.{Entry}
use Rattle.frontier.specs.Bags.{Bag, Holds, put, bag_of}
use Rattle.frontier.specs.Order.{Precedes}
use Rattle.frontier.specs.Disciplines.{Discipline}

-- The state of the least-floor line: its capacity and its bag.
pub record Held : Type 0 where
  pub capacity : ℕ
  pub bag : Bag

-- No entry of the bag has a lesser floor than e, nor the same floor and a smaller place.
abbrev pub Leads : Entry → Bag → Type 0
Leads e b = (x : Entry) → Holds b x → Precedes e x

-- One entry more.
abbrev pub held_more : Entry → Held → Held
held_more e s = record { capacity = s.capacity; bag = put e s.bag }

-- An addition leaves just one entry more. A taking gives the entry with the least floor, and among equals the smallest place.
abbrev pub least_first : Discipline
least_first = record {
  State = Held;
  bag = λ s. s.bag;
  capacity = λ s. s.capacity;
  Adds = λ s e t. t ≡ held_more e s;
  Takes = λ s e t. (s ≡ held_more e t) × Leads e s.bag;
  added = λ s e t h. (ap (λ (u : Held). u.bag) h, ap (λ (u : Held). u.capacity) h);
  taken = λ s e t h. (ap (λ (u : Held). u.bag) h.0, sym (ap (λ (u : Held). u.capacity) h.0));
}

-- The state of the newest-first line: its capacity and its entries, the newest first.
pub record Row : Type 0 where
  pub capacity : ℕ
  pub entries : List Entry

-- One entry more, the newest.
abbrev pub row_more : Entry → Row → Row
row_more e s = record { capacity = s.capacity; entries = e ∷ s.entries }

-- An addition puts the entry in front of all others. A taking gives the entry that was added last.
abbrev pub newest_first : Discipline
newest_first = record {
  State = Row;
  bag = λ s. bag_of s.entries;
  capacity = λ s. s.capacity;
  Adds = λ s e t. t ≡ row_more e s;
  Takes = λ s e t. s ≡ row_more e t;
  added = λ s e t h. (ap (λ (u : Row). bag_of u.entries) h, ap (λ (u : Row). u.capacity) h);
  taken = λ s e t h. (ap (λ (u : Row). bag_of u.entries) h, sym (ap (λ (u : Row). u.capacity) h));
}
