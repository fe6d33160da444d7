-- SAYABLE: statements as scripts have them. A record of a schema change or of a migration stands for such a statement, so a log
-- keeps what they are to leave.
use Rattle.std.specs.Prelude.{ℕ, Bool, ◌&&◌, List, IsTrue}
use Rattle.std.specs.List.{AllByRecursion, list_all}
use Rattle.bf_record.specs.Shallow.{IsShallowMigrate}
use Rattle.bf_recover.specs.Spoken.{is_list, is_plain, is_spoken_migrate}
use Rattle.bf_tree.specs.declared.script.Script.{Script}
use Rattle.bf_tree.specs.declared.script.Session.{Session}
use Rattle.bf_tree.specs.declared.statement.ColumnRule.{ColumnRule}
use Rattle.bf_tree.specs.declared.statement.Statement.{Statement}
use Rattle.bf_tree.specs.declared.statement.Statement.TheVariants.{CreateTable, CreateIndex, Migrate}

-- no keyword as a name, and 1 to 16 columns and key columns
abbrev pub is_sayable_table : List ℕ → List ColumnRule → List (List ℕ) → Bool
is_sayable_table name rules key = is_plain name && list_all (λ r. is_plain r.name) rules && is_list rules && is_list key

-- and the same of an index, and of a MIGRATE, each of whose expressions and conditions has few nodes
abbrev pub IsSayable : Statement → Type 0
IsSayable (CreateTable name rules key) = IsTrue (is_sayable_table name rules key)
IsSayable (CreateIndex name table columns) = IsTrue (is_plain name && is_plain table && is_list columns)
IsSayable (Migrate m) = IsTrue (is_spoken_migrate m) × IsShallowMigrate m
IsSayable other = Unit {0}

-- each statement of a script
abbrev pub IsSayableScript : Script → Type 0
IsSayableScript script = AllByRecursion (λ (session : Session). AllByRecursion IsSayable session.statements) script.sessions
