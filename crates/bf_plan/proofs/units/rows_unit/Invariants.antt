use Rattle.std.proofs.Common.{◌≡◌, take}
use Rattle.std.specs.List.{flat_map}
use Rattle.bf_plan.specs.Units.{arms_driven}
use Rattle.bf_plan.proofs.units.rows_unit.Given as goal

abbrev pub invariant-loop-unit : goal.invariant-loop-unit
invariant-loop-unit l = l.arms.items ≡ flat_map (arms_driven l.driver) (take l.unit-index l.units)
