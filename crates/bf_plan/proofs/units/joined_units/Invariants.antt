use Rattle.std.proofs.Common.{◌≡◌, ◌++◌, map, take}
use Rattle.std.specs.List.{flat_map}
use Rattle.bf_plan.specs.Units.{rows_unit, units_by_values}
use Rattle.bf_plan.proofs.units.joined_units.Given as goal

abbrev pub invariant-loop-driver : goal.invariant-loop-driver
invariant-loop-driver l = l.all.items ≡ map (rows_unit l.units) (take l.driver-index l.drivers)

abbrev pub invariant-loop-unit : goal.invariant-loop-unit
invariant-loop-unit l = l.all.items ≡ map (rows_unit l.units) l.drivers ++ flat_map units_by_values (take l.unit-index l.units)
