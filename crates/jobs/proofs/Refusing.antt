-- The refusal of a file is one.
use Rattle.std.proofs.Common.{◌≡◌, ℕ, List, None, arith}
use Rattle.model.specs.declared.refusal.Refusal.{Refusal}
use Rattle.model.specs.Returned.{returned, SameRefusal}
use Rattle.records.specs.declared.field.Span.{Span}
use Rattle.jobs.specs.Files.{Holds, Unread}

pub refused_one : (spans : List Span) (b : List ℕ) (e f : Refusal) → Unread spans b e → Unread spans b f → SameRefusal e f
refused_one spans b e f g h = search arith

-- a file that is read is not refused, but for want of memory
pub held_unrefused : (spans : List Span) (rows : List (List ℕ)) (b : List ℕ) (e : Refusal) → Holds spans rows b → Unread spans b e → returned e ≡ None
held_unrefused spans rows b e h u = search arith
