-- What live tables hold: a catalog, and a heap for each of its tables.
use Rattle.std.specs.Prelude.{◌≡◌, ℕ, ◌+◌, List, map, zip, if◌then◌else◌}
use Rattle.std.specs.List.{All}
use Rattle.std.specs.Map.{keys_of, values_of}
use Rattle.bf_base.specs.declared.table.Table.{Table}
use Rattle.bf_base.specs.Lists.{has, same_name}
use Rattle.bf_heap.specs.Heaps.{Entry, Rows}
use Rattle.bf_live.specs.Merged.{rows_under}
use Rattle.bf_live.specs.Meanings.{entries_of}
use Rattle.bf_tree.specs.Catalogs.{Catalog}
use Rattle.bf_sql.specs.Database.{Database, Stored, IsDatabase, with_tables, without}
use Rattle.bf_txn.specs.declared.write.Write.{Write}

-- the heap of the table of a name, and its rows under their keys
abbrev pub NamedHeap : Type 0
NamedHeap = List ℕ × Rows

abbrev pub NamedRows : Type 0
NamedRows = List ℕ × List Entry

abbrev pub rows_in : List NamedHeap → List NamedRows
rows_in heaps = map (λ heap. (heap.0, heap.1.entries)) heaps

-- the rows of heaps, with others in the place of those under a name
abbrev pub with_rows_under : List ℕ → List Entry → List NamedRows → List NamedRows
with_rows_under name entries rows = map (λ (r : NamedRows). (r.0, if same_name name r.0 then entries else r.1)) rows

-- a table with its rows under their keys
abbrev pub TableRows : Type 0
TableRows = Table × List Entry

-- those of tables with their heaps
abbrev pub held_in : List (Table × Rows) → List TableRows
held_in tables = map (λ t. (t.0, t.1.entries)) tables

abbrev pub stored : TableRows → Stored
stored held = record { table = held.0; rows = map (λ entry. entry.1) held.1 }

abbrev pub database_of : Catalog → List NamedRows → Database
database_of catalog rows = record { number = catalog.number; tables = map stored (zip catalog.tables (values_of rows)); indexes = catalog.indexes }

-- each row stands under its own key
abbrev pub IsUnderOwnKeys : TableRows → Type 0
IsUnderOwnKeys held = held.1 ≡ entries_of held.0 (stored held).rows

-- what is true of live tables
pub record AreLiveTables (catalog : Catalog) (rows : List NamedRows) : Type 0 where
  pub one_each : keys_of rows ≡ map (λ table. table.name) catalog.tables
  pub under_own_keys : All IsUnderOwnKeys (zip catalog.tables (values_of rows))
  pub database : IsDatabase (database_of catalog rows)

-- a table's rows after the writes of a transaction
abbrev pub written_to : List Write → Stored → Stored
written_to writes s = record s { rows = rows_under (entries_of s.table s.rows) writes s.table.name }

-- COMMIT: the database with the writes of a transaction in all its tables
abbrev pub committed : Database → List Write → Database
committed db writes = record db { tables = map (written_to writes) db.tables }

-- EXCHANGE: the database without the tables of some names and without their indexes, with new tables, and with its next
-- number
abbrev pub exchanged : Database → List (List ℕ) → List Stored → Database
exchanged db gone new =
    let rest = without (has same_name gone) db in
    with_tables new (record rest { number = db.number + 1 })
