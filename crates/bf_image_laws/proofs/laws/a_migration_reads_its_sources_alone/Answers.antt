use Rattle.bf_sql.specs.migrations.MigrationObjections.{sources_of}
use Rattle.bf_image.proofs.keeping.SameTables.{target_objected, target_table_same}
use Rattle.bf_image.proofs.keeping.Sources.{arms_inside_sources, target_inside, tables_same, images_same, granules_same, part_same, owner_same}
use Rattle.bf_image.proofs.keeping.Prepared.{plan_by_sources}
use Rattle.bf_image_laws.proofs.laws.a_migration_reads_its_sources_alone.Goals as goal

pub returns : goal.returns
returns c = record {
  granules = λ old new m same. granules_same old new (sources_of m) same m (arms_inside_sources m);
  parts = λ old new m g same. part_same old new (sources_of m) same m (arms_inside_sources m) g;
  owners = λ old new m t key same among. owner_same old new (sources_of m) same m (arms_inside_sources m) t key (target_inside m t among);
  tables = λ old new m t same among. target_table_same old new (sources_of m) (tables_same old new (sources_of m) same) t (target_inside m t among);
  images = λ old new m t same among. images_same old new (sources_of m) same t.arms (target_inside m t among);
  objections = λ old new m t same among. target_objected old new (sources_of m) (tables_same old new (sources_of m) same) t (target_inside m t among);
  plan = plan_by_sources;
}
