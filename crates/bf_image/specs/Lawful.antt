-- Lawful migrations.
use Rattle.std.specs.Prelude.{◌≡◌, []}
use Rattle.bf_tree.specs.declared.migration.Migrate.{Migrate}
use Rattle.bf_tree.specs.declared.statement.Statement.TheVariants as statement
use Rattle.bf_sql.specs.Database.{Database, IsDatabase}
use Rattle.bf_sql.specs.RowObjections.{row_objections}
use Rattle.bf_sql.specs.migrations.MigrationObjections.{migrate_objections}

-- LAWFUL: neither the catalog nor the number of its sources' rows has anything against the migration, and its old tables are a
-- database's
pub record IsLawful (old : Database) (m : Migrate) : Type 0 where
  pub database : IsDatabase old
  pub unobjected : migrate_objections old m ≡ []
  pub few : row_objections old (statement.Migrate m) ≡ []
