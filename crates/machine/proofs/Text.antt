-- The length of a listing line.
use Rattle.std.proofs.Common.{◌^◌, ◌<◌, ◌≤◌, length, arith}
use Rattle.std.proofs.lemmas.Fmt.{length-decimal-le}
use Rattle.std.proofs.lemmas.List.{length-append}
use Rattle.machine.specs.declared.schedule.Slot.{Slot}
use Rattle.machine.specs.Lines.{line_of}

-- three numbers of 64 bits and two spaces
pub line_short : (s : Slot) → s.job < 2 ^ 64 → s.start < 2 ^ 64 → s.end < 2 ^ 64 → length (line_of s) ≤ 64
line_short s a b c = grind (arith, length-append, length-decimal-le 20)
