use Rattle.std.proofs.Common.{◌≡◌}
use Rattle.std.specs.List.{flat_map}
use Rattle.bf_bind.proofs.Walks.{left_from}
use Rattle.bf_plan.specs.Targets.{failing_in}
use Rattle.bf_plan.proofs.target.expect_all_sure.Given as goal

abbrev pub invariant-loop-arm : goal.invariant-loop-arm
invariant-loop-arm l = flat_map (failing_in l.target) l.arms ≡ left_from (failing_in l.target) l.arms l.arm-index
