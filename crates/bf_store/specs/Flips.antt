-- A FLIP on its way: the old tables leave the live ones with their rows, and come back where it fails.
use Rattle.std.specs.Prelude.{◌≡◌, ℕ, not, List, [], ◌∷◌, map, Some, IsTrue}
use Rattle.std.specs.List.{AllByRecursion}
use Rattle.boxcar.specs.Table.{Shows}
use Rattle.bf_base.specs.declared.table.Table.{Table}
use Rattle.bf_base.specs.Lists.{has, same_name}
use Rattle.bf_base.proofs.Apart.{are_apart}
use Rattle.bf_tree.specs.declared.migration.Migrate.{Migrate}
use Rattle.bf_tree.specs.declared.plan.Plan.{Plan}
use Rattle.bf_sql.specs.Database.{Database, IsDatabase, Stored, stored_at, table_rows, with_rows, without}
use Rattle.bf_sql.specs.migrations.Images.{replaced}
use Rattle.bf_sql.specs.migrations.Targets.{target_table}
use Rattle.bf_live.specs.Meanings.{entries_of}
use Rattle.bf_image.specs.Migrations.{old_of}
use Rattle.bf_image.specs.Registries.{Registry}
use Rattle.bf_image.specs.Sources.{table_under}
use Rattle.bf_image.specs.declared.migration.Frozen.{Frozen}
use Rattle.bf_store.specs.States.{set_aside}
use Rattle.bf_store.specs.Stores.{IsCounted}
use Rattle.bf_store.specs.declared.under_way.UnderWay.{UnderWay}

-- the tables of some names without their rows, in the order of their names
abbrev pub tables_of : Database → List (List ℕ) → List Table
tables_of db names = map (λ s. s.table) (without (λ name. not (has same_name names name)) db).tables

abbrev pub names_in : List Table → List (List ℕ)
names_in tables = map (λ table. table.name) tables

-- different tables of a database
pub record AreTablesOf (db : Database) (tables : List Table) : Type 0 where
  pub there : AllByRecursion (λ table. table_under db table.name ≡ Some table) tables
  pub apart : IsTrue (are_apart same_name (names_in tables))

-- a table with the rows that a database has under its name
abbrev pub frozen_in : Database → Table → Frozen
frozen_in db table = record { table = table; rows = entries_of table (table_rows db table.name) }

-- the database with the rows of an old table in it again
abbrev pub with_back : Database → Frozen → Database
with_back db frozen = with_rows db frozen.table.name (map (λ entry. entry.1) frozen.rows)

pub record CanComeBack (db : Database) (frozen : Frozen) : Type 0 where
  pub own_keys : (s : Stored) → stored_at db frozen.table.name ≡ Some s → frozen.rows ≡ entries_of s.table (map (λ entry. entry.1) frozen.rows)
  pub database : IsDatabase (with_back db frozen)

-- the rows of old tables can come back, one table after the other
abbrev pub MayComeBack : Database → List Frozen → Type 0
MayComeBack db [] = Unit {0}
MayComeBack db (f ∷ fs) = CanComeBack db f × MayComeBack (with_back db f) fs

-- the live tables at the flip: the sources are gone, and the targets are there without rows
abbrev pub emptied : Database → Migrate → Database
emptied db m = replaced db m (map (λ t. record { table = target_table db t; rows = [] }) m.targets)

-- a migration by a plan begins: it is a registry's, it keeps the sources, and nothing of it has moved
pub record IsBegun (db : Database) (plan : Plan) (registry : Registry) (number : ℕ) (begun : UnderWay) : Type 0 where
  pub shown : Shows registry.migrations begun.pass
  pub numbered : begun.pass.value.number ≡ number
  pub planned : begun.pass.value.plan ≡ plan
  pub old : old_of begun.pass.value ≡ set_aside db plan.migrate
  pub none_done : begun.done ≡ []
  pub counted : IsCounted begun
