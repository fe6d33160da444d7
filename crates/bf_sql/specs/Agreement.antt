-- AGREEMENT: what two databases have alike at the names of a footprint.
use Rattle.std.specs.Prelude.{◌≡◌, ℕ, List, find, Option, IsTrue}
use Rattle.std.specs.List.{All}
use Rattle.bf_base.specs.declared.value.Value.{Value}
use Rattle.bf_base.specs.Lists.{same_key}
use Rattle.bf_base.specs.Tables.{key_of}
use Rattle.bf_locks.specs.declared.mode.Mode.{Mode}
use Rattle.bf_locks.specs.declared.mode.Mode.TheVariants.{X}
use Rattle.bf_locks.specs.declared.name.LockName.{LockName}
use Rattle.bf_locks.specs.declared.name.LockName.TheVariants.{Catalog, Whole, One}
use Rattle.bf_locks.specs.Modes.{reads_all}
use Rattle.bf_sql.specs.Database.{Database, table_at, table_rows}
use Rattle.bf_sql.specs.Bound.{catalog_of}
use Rattle.bf_sql.specs.Footprints.{Lock}

-- the row of a table at a key, or none
abbrev pub row_at : Database → List ℕ → List Value → Option (List Value)
row_at db table key = find (λ row. same_key (key_of (table_at db table) row) key) (table_rows db table)

-- the catalog in any mode: the same catalog, and in X the same database. A whole table in a mode that reads all: the
-- same rows. One key: the same row, or none in both
abbrev pub AgreeAt : Database → Database → LockName → Mode → Type 0
AgreeAt a b Catalog X = a ≡ b
AgreeAt a b Catalog mode = catalog_of a ≡ catalog_of b
AgreeAt a b (Whole table) mode = IsTrue (reads_all mode) → table_rows a table ≡ table_rows b table
AgreeAt a b (One table key) mode = row_at a table key ≡ row_at b table key

abbrev pub AgreeOn : Database → Database → List Lock → Type 0
AgreeOn a b locks = All (λ lock. AgreeAt a b lock.0 lock.1) locks
