use Rattle.std.proofs.Common.{◌≡◌}
use Rattle.bf_demo.specs.Script.{openings}
use Rattle.bf_demo.proofs.script.openings.Given as goal

abbrev pub invariant-loop-b : goal.invariant-loop-b
invariant-loop-b l = l.statements.items ≡ openings l.b
