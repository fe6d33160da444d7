use Rattle.std.proofs.Common.{◌≡◌, map, take}
use Rattle.std.specs.List.{flat_map}
use Rattle.bf_sql.specs.Bound.{without_rows}
use Rattle.bf_sql.specs.migrations.MigrationObjections.{arm_objections}
use Rattle.bf_bind.proofs.Walks.{left_from}
use Rattle.bf_plan.specs.Arms.{bound_arm}
use Rattle.bf_plan.proofs.arm.bind_arms.Given as goal

abbrev pub invariant-loop-arm : goal.invariant-loop-arm
invariant-loop-arm l = record {
  unobjected : flat_map (arm_objections (without_rows l.catalog) l.target) l.target.arms ≡ left_from (arm_objections (without_rows l.catalog) l.target) l.target.arms l.arm-index;
  value : l.bound.items ≡ map (bound_arm (without_rows l.catalog)) (take l.arm-index l.target.arms);
}
