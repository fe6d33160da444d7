use Rattle.std.proofs.Common.{◌≡◌, [], fold, take}
use Rattle.std.specs.List.{flat_map}
use Rattle.bf_base.specs.Distinct.{with_new}
use Rattle.bf_base.specs.Lists.{same_name}
use Rattle.bf_sql.specs.migrations.Targets.{arm_sources}
use Rattle.bf_plan.proofs.units.sources.Given as goal

abbrev pub invariant-loop-target : goal.invariant-loop-target
invariant-loop-target l = l.names ≡ fold (with_new same_name) [] (flat_map (λ t. flat_map arm_sources t.arms) (take l.target-index l.migrate.targets))
