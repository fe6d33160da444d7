-- A MIGRATE that is begun and not run: the migration that it would be.
use Rattle.std.specs.Prelude.{◌≡◌, ◌++◌, Option, Some, None, Result, Ok, Err}
use Rattle.bf_tree.specs.Settling.{first_of}
use Rattle.bf_tree.specs.declared.migration.Migrate.{Migrate}
use Rattle.bf_tree.specs.declared.reply.Refusal.{Refusal}
use Rattle.bf_tree.specs.declared.statement.Statement.TheVariants as statement
use Rattle.bf_sql.specs.Database.{Database}
use Rattle.bf_sql.specs.RowObjections.{row_objections}
use Rattle.bf_sql.specs.migrations.MigrationObjections.{migrate_objections}
use Rattle.bf_image.specs.Migrations.{IsLawfulMigration, old_of}
use Rattle.bf_image.specs.Sources.{HaveSameSources}
use Rattle.bf_image.specs.declared.migration.Migration.{Migration}

-- the first that stands in the way of a MIGRATE: of the catalog, and then of the rows
abbrev pub first_against : Database → Migrate → Option Refusal
first_against db m = first_of (migrate_objections db m ++ row_objections db (statement.Migrate m))

-- a lawful migration, by the MIGRATE, over the database's own sources
pub record IsMigrationOf (db : Database) (m : Migrate) (begun : Migration) : Type 0 where
  pub allowed : first_against db m ≡ None
  pub by : begun.plan.migrate ≡ m
  pub lawful : IsLawfulMigration begun
  pub sources : HaveSameSources m (old_of begun) db

-- BEGUN: the migration, or else the first refusal
abbrev pub IsBegun : Database → Migrate → Result Migration Refusal → Type 0
IsBegun db m (Ok begun) = IsMigrationOf db m begun
IsBegun db m (Err refusal) = first_against db m ≡ Some refusal
