-- The entry in front of a heap leads its bag.
use Rattle.std.proofs.Common.{◌≡◌, false, List, refl, sym, ap, ◌∙◌, arith}
use Rattle.std.specs.Cmp.{ranks}
use Rattle.std.proofs.lemmas.Bool.Decides.{nat_tests}
use Rattle.std.proofs.lemmas.List.Elements.{All-weaker}
use Rattle.heap.specs.Order.{after, First}
use Rattle.heap.proofs.Keyed.{not_after}
use Rattle.frontier.specs.declared.entry.Entry.{Entry}
use Rattle.frontier.specs.Order.{entry_cmp, by_floor, ByFloor, Precedes}
use Rattle.frontier.specs.Bags.{bag_of}
use Rattle.frontier.specs.Disciplines.{Determined}
use Rattle.frontier.specs.Named.{Leads, Held, least_first}
use Rattle.frontier.proofs.Counts.{holds_all}

-- what the derived comparison of entries computes
pub compared : ByFloor entry_cmp
compared = record { same = λ _ _. refl; total = by_floor }

pub precedes : (x y : Entry) → after entry_cmp x y ≡ false → Precedes x y
precedes x y h = not_after _ _ _ _ _ _ _ (ranks x.floor y.floor) (ranks x.place y.place) h

pub leads : (x : Entry) (es : List Entry) → First entry_cmp x es → Leads x (bag_of es)
leads x es h = holds_all (Precedes x) es (All-weaker (λ y. after entry_cmp x y ≡ false) (Precedes x) (precedes x) es h)

-- each of two leaders precedes the other, and the counts tell what is left
pub least_determined : Determined least_first
least_determined = record {
  adds = grind arith;
  takes = λ s e f t u p q. grind (arith, q.1 e (rw p.0 (grind (arith, nat_tests))), p.1 f (rw q.0 (grind (arith, nat_tests))), λ (x : Entry). ap (λ (c : Held). c.bag.count x) (sym p.0 ∙ q.0));
}
