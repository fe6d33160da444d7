use Rattle.std.proofs.Common.{◌≡◌, [], fold, take}
use Rattle.std.specs.List.{flat_map}
use Rattle.bf_base.specs.Distinct.{with_new}
use Rattle.bf_base.specs.Lists.{same_name}
use Rattle.bf_plan.specs.Units.{driving}
use Rattle.bf_plan.proofs.units.drivers.Given as goal

abbrev pub invariant-loop-unit : goal.invariant-loop-unit
invariant-loop-unit l = l.names ≡ fold (with_new same_name) [] (flat_map driving (take l.unit-index l.units))
