-- The rows of granules, put into the tables of their targets.
use Rattle.std.specs.Prelude.{◌≡◌, ℕ, List, flat_map, map, Option, Some, IsTrue}
use Rattle.std.specs.List.{list_all}
use Rattle.std.specs.Map.{keys_of}
use Rattle.boxcar.specs.Table.{Where}
use Rattle.bf_base.specs.declared.granule.Granule.{Granule}
use Rattle.bf_base.specs.declared.value.Value.{Value}
use Rattle.bf_base.specs.Tables.{key_of}
use Rattle.bf_tree.specs.declared.migration.Target.{Target}
use Rattle.bf_txn.specs.declared.write.Write.{Write}
use Rattle.bf_txn.specs.Writes.{writes_to}
use Rattle.bf_live.specs.Live.{NamedRows}
use Rattle.bf_live.specs.Puts.{all_puts}
use Rattle.bf_image.specs.Migrations.{old_of}
use Rattle.bf_image.specs.declared.migration.Migration.{Migration as Kept}
use Rattle.bf_sql.specs.Database.{Database}
use Rattle.bf_base.specs.Lists.{has}
use Rattle.bf_sql.specs.migrations.Granules.{granules_of, part_of, same_granule}
use Rattle.bf_sql.specs.migrations.Lazy.{Migration, with_rows_of}
use Rattle.bf_sql.specs.migrations.Targets.{target_table}
use Rattle.bf_store.specs.Marks.{AreFresh}

-- a row of a target, and as a write that puts it under its key
abbrev pub Put : Type 0
Put = Target × List Value

abbrev pub put_of : Database → Put → Write
put_of old p = record { table = p.0.name; key = key_of (target_table old p.0) p.1; row = Some p.1 }

-- rows of targets, put together for the table of each target: a table has its own in their order
pub record ArePuts (m : Kept) (rows : List Put) (puts : List NamedRows) : Type 0 where
  pub named : keys_of puts ≡ map (λ t. t.name) m.plan.migrate.targets
  pub own : (name : List ℕ) → writes_to name (all_puts puts) ≡ writes_to name (map (put_of (old_of m)) rows)

-- IMAGES of granules: the rows that come from them, put together
abbrev pub AreImages : Kept → List Granule → List NamedRows → Type 0
AreImages m granules puts = ArePuts m (flat_map (part_of (old_of m) m.plan.migrate) granules) puts

-- those of granules of the migration of a pass, if there is one and they were made
abbrev pub AreImagesIfAny : Option (Where Kept) → List Granule → Option (List NamedRows) → Type 0
AreImagesIfAny (Some pass) granules (Some puts) = AreImages pass.value granules puts
AreImagesIfAny pass granules puts = Unit {0}

-- granules of a migration, which differ, of which none has moved
pub record MayMove (last : Migration) (granules : List Granule) : Type 0 where
  pub each : IsTrue (list_all (has same_granule (granules_of last.old last.migrate)) granules)
  pub fresh : AreFresh last.done granules

-- the live tables with their rows
abbrev pub with_rows_in : Database → Migration → List Granule → Database
with_rows_in live last granules = record live { tables = map (with_rows_of last granules) live.tables }
