-- A file has one text.
use Rattle.std.proofs.Common.{◌≡◌, ℕ, List, vec_items, arith}
use Rattle.jobs.proofs.Refusing.{held_unrefused, refused_one}
use Rattle.listing.specs.Listing.{Shows, scheduled, refused}

pub one_text : (b t u : List ℕ) → Shows b t → Shows b u → u ≡ t
one_text b t u (scheduled s h p e) (scheduled r k q f) = cc (q.only (vec_items s.slots) p.slotted)
one_text b t u (scheduled s h p e) (refused x n w m f) = cc (held_unrefused _ _ _ _ h w)
one_text b t u (refused x n w m e) (scheduled r k q f) = cc (held_unrefused _ _ _ _ k w)
one_text b t u (refused x n w m e) (refused y l v o f) = grind (arith, refused_one _ _ _ _ v w)
