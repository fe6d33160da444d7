-- KEPT: the old rows by their values, where they have been made, are those of the last migration.
use Rattle.std.specs.Prelude.{List, Option, None, Some}
use Rattle.boxcar.specs.Table.{Where}
use Rattle.bf_image.specs.declared.migration.Migration.{Migration}
use Rattle.bf_image.specs.declared.value_indexes.UnitIndex.{UnitIndex}
use Rattle.bf_store.specs.Stores.{AreIndexesOf}

abbrev pub AreKept : Option (Where Migration) → Option (List (Option UnitIndex)) → Type 0
AreKept pass None = Unit {0}
AreKept pass (Some indexes) = AreIndexesOf pass indexes
