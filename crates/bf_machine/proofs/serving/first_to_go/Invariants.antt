-- No call can come of the sessions that were looked at.
use Rattle.std.proofs.Common.{ℕ, ◌≤◌}
use Rattle.bf_machine.specs.interleaving.Serving.{CannotGo}
use Rattle.bf_machine.proofs.serving.first_to_go.Given as goal

abbrev pub invariant-loop-place : goal.invariant-loop-place
invariant-loop-place g l = (s : ℕ) → 1 ≤ s → s ≤ l.place → CannotGo l.machine s
