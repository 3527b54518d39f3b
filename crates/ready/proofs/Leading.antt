-- The job in front of a heap leads those that are ready.
use Rattle.std.proofs.Common.{◌≡◌, false, List, Some, None, Option, sym, inl, inr, ⊎_elim}
use Rattle.std.specs.Cmp.{ranks}
use Rattle.std.proofs.lemmas.List.Elements.{All-weaker}
use Rattle.heap.specs.Order.{after, First}
use Rattle.heap.specs.Calls.{Popped}
use Rattle.heap.proofs.Keyed.{not_after}
use Rattle.ready.specs.declared.ReadyJob.{ReadyJob}
use Rattle.ready.specs.Order.{ready_job_cmp, Precedes, Leads, Starts}

pub precedes : (x y : ReadyJob) → after ready_job_cmp x y ≡ false → Precedes x y
precedes x y h = ⊎_elim inl (λ g. inr (sym g.0, g.1)) (not_after _ _ _ _ _ _ _ (ranks y.tail x.tail) (ranks x.job y.job) h)

pub leads : (x : ReadyJob) (xs : List ReadyJob) → First ready_job_cmp x xs → Leads x xs
leads x xs h = All-weaker (λ y. after ready_job_cmp x y ≡ false) (Precedes x) (precedes x) xs h

pub starts : (cells items cells' items' : List ReadyJob) (r : Option ReadyJob) → Popped ready_job_cmp cells items r cells' items' → Starts items r
starts cells items cells' items' None f = f.0
starts cells items cells' items' (Some x) f = λ h. leads x items (f.0.2 h)
