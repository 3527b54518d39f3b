use Rattle.std.proofs.Common.{◌≡◌, ◌≤◌, length, take, vec_items, vec_len, vec_capacity}
use Rattle.frontier.specs.Runs.{Ran}
use Rattle.frontier.proofs.run.run_calls.Given as goal

abbrev pub invariant-loop-call : goal.invariant-loop-call
invariant-loop-call g l = (vec_len l.answers ≡ l.call-index) × (length l.calls ≤ vec_capacity l.answers) × Ran g.L.WaitingLine.discipline (take l.call-index l.calls) (vec_items l.answers) (g.L.WaitingLine.state l.initial.line) (g.L.WaitingLine.state l.line)
