use Rattle.std.proofs.Common.{sym, Ok}
use Rattle.listing.specs.Listing.{refused}
use Rattle.listing.proofs.Plans.{shown}
use Rattle.listing.proofs.listing.Goals as goal

pub returns-in_ok-text-in-Ok-clause-answer : goal.returns-in_ok-text-in-Ok-clause-answer
returns-in_ok-text-in-Ok-clause-answer c = shown _ c.in-Ok.schedule (Ok c.in_ok-text-in-Ok.field-0) c.in-Ok.ensures c.in_ok-text-in-Ok.ensures

pub returns-in_ok-format-in-Some-clause-answer : goal.returns-in_ok-format-in-Some-clause-answer
returns-in_ok-format-in-Some-clause-answer c = refused _ _ c.in-Err.ensures (sym c.in-Some.ensures) c.in_ok-format-in-Some.ensures.ok
