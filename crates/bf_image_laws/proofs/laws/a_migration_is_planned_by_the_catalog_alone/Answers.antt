use Rattle.bf_image.proofs.keeping.Frozen.{objections_alike, tables_alike, arms_alike, same_as_catalog}
use Rattle.bf_image.proofs.keeping.Prepared.{bare_catalog, plan_alike, prepared_alike}
use Rattle.bf_image_laws.proofs.laws.a_migration_is_planned_by_the_catalog_alone.Goals as goal

pub returns : goal.returns
returns c = record {
  objections = λ old new m same. objections_alike old new same m;
  tables = λ old new t same. tables_alike old new same t;
  arms = λ old new arm same. arms_alike old new same arm;
  plan = λ old new m same. plan_alike old new same m;
  prepared = λ old new in_block s alike. prepared_alike old new alike in_block s;
  catalog = same_as_catalog;
  bare = bare_catalog;
}
