use Rattle.std.proofs.Common.{◌≡◌, map, take}
use Rattle.std.specs.List.{flat_map, enumerate_from}
use Rattle.bf_sql.specs.Bound.{without_rows}
use Rattle.bf_sql.specs.migrations.MigrationObjections.{target_objections}
use Rattle.bf_sql.specs.migrations.Placed.{placed_arm}
use Rattle.bf_sql.specs.migrations.Targets.{target_table}
use Rattle.bf_bind.proofs.Walks.{left_from}
use Rattle.bf_plan.specs.Units.{units_of_target}
use Rattle.bf_plan.proofs.planning.bind_targets.Given as goal

abbrev pub invariant-loop-index : goal.invariant-loop-index
invariant-loop-index l = record {
  unobjected : flat_map (target_objections (without_rows l.catalog)) l.migrate.targets ≡ left_from (target_objections (without_rows l.catalog)) l.migrate.targets l.index;
  tables : l.tables.items ≡ map (target_table (without_rows l.catalog)) (take l.index l.migrate.targets);
  arms : l.arms.items ≡ map (λ t. map (placed_arm (without_rows l.catalog)) t.arms) (take l.index l.migrate.targets);
  units : l.units.items ≡ flat_map (units_of_target (without_rows l.catalog)) (enumerate_from 0 (take l.index l.migrate.targets));
}
