use Rattle.std.proofs.Common.{◌≡◌, fold, take}
use Rattle.std.specs.List.{flat_map}
use Rattle.bf_base.specs.Distinct.{with_new}
use Rattle.bf_base.specs.Lists.{same_name}
use Rattle.bf_sql.specs.migrations.Targets.{arm_sources}
use Rattle.bf_plan.proofs.units.with_target.Given as goal

abbrev pub invariant-loop-arm : goal.invariant-loop-arm
invariant-loop-arm l = l.names ≡ fold (with_new same_name) l.initial.names (flat_map arm_sources (take l.arm-index l.target.arms))
