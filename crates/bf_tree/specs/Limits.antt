-- The limits of the language on trees.
use Rattle.std.specs.Prelude.{ℕ, ◌≤◌, Bool, List, [], flat_map, length, nat_le, IsTrue}
use Rattle.std.specs.List.{list_all}
use Rattle.bf_base.specs.declared.table.Table.{Table}
use Rattle.bf_base.specs.Limits.{longest_script, most_columns}
use Rattle.bf_tree.specs.Catalogs.{Catalog}
use Rattle.bf_tree.specs.declared.migration.Arm.{Arm}
use Rattle.bf_tree.specs.declared.migration.Migrate.{Migrate}
use Rattle.bf_tree.specs.declared.migration.Target.{Target}
use Rattle.bf_tree.specs.declared.script.Script.{Script}
use Rattle.bf_tree.specs.declared.statement.ColumnRule.{ColumnRule}
use Rattle.bf_tree.specs.declared.statement.Statement.{Statement}
use Rattle.bf_tree.specs.declared.statement.Statement.TheVariants.{CreateTable}
use Rattle.bf_tree.specs.declared.statement.Statement.TheVariants as statement

-- a table with at most so many columns as a table may have
abbrev pub is_narrow : Table → Bool
is_narrow table = nat_le (length table.columns) most_columns

abbrev pub HasNarrowTables : Catalog → Type 0
HasNarrowTables catalog = IsTrue (list_all is_narrow catalog.tables)

-- the columns that a statement declares
abbrev pub declared_columns : Statement → List ColumnRule
declared_columns (CreateTable name rules key) = rules
declared_columns s = []

abbrev pub is_narrow_statement : Statement → Bool
is_narrow_statement s = nat_le (length (declared_columns s)) most_columns

-- each statement of a script that is read is narrow
abbrev pub is_narrow_script : Script → Bool
is_narrow_script script = list_all (λ s. list_all is_narrow_statement s.statements) script.sessions

-- each table of a catalog is narrow, and so is one that a statement makes
pub record KeepsLimits (catalog : Catalog) (s : Statement) : Type 0 where
  pub tables : HasNarrowTables catalog
  pub declared : length (declared_columns s) ≤ most_columns

-- the most targets of a MIGRATE
abbrev pub most_targets : ℕ
most_targets = 8

-- each item of an arm is a column of a table
abbrev pub has_few_items : Arm → Bool
has_few_items arm = nat_le (length arm.items) most_columns

abbrev pub has_small_arms : Target → Bool
has_small_arms target = list_all has_few_items target.arms

-- a MIGRATE as a script has room for it: each arm has a byte at least
pub record IsNarrowMigrate (m : Migrate) : Type 0 where
  pub targets : length m.targets ≤ most_targets
  pub arms : length (flat_map (λ t. t.arms) m.targets) ≤ longest_script
  pub items : IsTrue (list_all has_small_arms m.targets)

-- a statement that is narrow where it is a MIGRATE
abbrev pub IsNarrowIfMigrate : Statement → Type 0
IsNarrowIfMigrate (statement.Migrate m) = IsNarrowMigrate m
IsNarrowIfMigrate s = Unit
