-- The sources of a migration, what it makes of them, and databases that have the same ones.
use Rattle.std.specs.Prelude.{◌≡◌, ℕ, true, not, List, map, Option, option_map}
use Rattle.bf_base.specs.declared.table.Table.{Table}
use Rattle.bf_base.specs.Lists.{same_name, has}
use Rattle.bf_tree.specs.declared.migration.Migrate.{Migrate}
use Rattle.bf_sql.specs.Database.{Database, Stored, stored_at, stored_in_order, without}
use Rattle.bf_sql.specs.migrations.Images.{image_of}
use Rattle.bf_sql.specs.migrations.MigrationObjections.{sources_of}
use Rattle.bf_sql.specs.migrations.Targets.{target_table}

-- FROZEN: the sources of a migration with their rows and their indexes, and no other table
abbrev pub frozen_of : Database → Migrate → Database
frozen_of db m = without (λ name. not (has same_name (sources_of m) name)) db

-- the same tables with the same rows under the names of a migration's sources
abbrev pub HaveSameSources : Migrate → Database → Database → Type 0
HaveSameSources m old new = (name : List ℕ) → has same_name (sources_of m) name ≡ true → stored_at old name ≡ stored_at new name

-- the table of a name without its rows, where there is one
abbrev pub table_under : Database → List ℕ → Option Table
table_under db name = option_map (λ s. s.table) (stored_at db name)

-- the same tables under all names, whatever their rows
abbrev pub HaveSameTables : Database → Database → Type 0
HaveSameTables old new = (name : List ℕ) → table_under old name ≡ table_under new name

-- the tables that a migration makes of old ones, each with its rows in key order
abbrev pub tables_made : Database → Migrate → List Stored
tables_made old m = map (λ t. stored_in_order (target_table old t) (image_of old t)) m.targets
