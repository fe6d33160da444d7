use Rattle.std.proofs.Common.{ap}
use Rattle.bf_sql.specs.migrations.Images.{replaced}
use Rattle.bf_image.proofs.keeping.Frozen.{frozen_same, frozen_database, frozen_lawful, frozen_made}
use Rattle.bf_image_laws.proofs.laws.a_migration_may_keep_its_sources_alone.Goals as goal

pub returns : goal.returns
returns c = record { same = frozen_same; database = frozen_database; lawful = frozen_lawful; flip = λ db m. ap (replaced db m) (frozen_made db m) }
