use Rattle.std.proofs.Common.{◌≡◌, take}
use Rattle.bf_plan.specs.Units.{arm_units}
use Rattle.bf_plan.proofs.units.arm_units.Given as goal

abbrev pub invariant-loop-index : goal.invariant-loop-index
invariant-loop-index l = l.units.items ≡ arm_units l.target (take l.index l.arms)
