-- A database that is begun with: a catalog, and the rows of each of its tables.
use Rattle.std.specs.Prelude.{ℕ, Bool, true, not, ◌&&◌, List, [], ◌∷◌, map, fold, if◌then◌else◌, IsTrue}
use Rattle.std.specs.Global.{Vec}
use Rattle.std.specs.List.{list_all}
use Rattle.bf_base.specs.declared.table.Table.{Table}
use Rattle.bf_base.specs.declared.value.Value.{Value}
use Rattle.bf_base.specs.Lists.{has, in_order, same_key, same_name}
use Rattle.bf_base.specs.Tables.{key_of}
use Rattle.bf_base.specs.Values.{key_cmp}
use Rattle.bf_heap.specs.Heaps.{Entry}
use Rattle.bf_tree.specs.Catalogs.{Catalog}
use Rattle.bf_tree.specs.Limits.{HasNarrowTables}
use Rattle.bf_live.specs.Meanings.{entries_of}
use Rattle.bf_live.specs.Live.{TableRows}
use Rattle.bf_sql.specs.Bound.{without_rows}
use Rattle.bf_sql.specs.Database.{Database, IsDatabase, is_admitted, stored_in_order}

-- the name of a table, and its rows in any order
abbrev pub NamedTable : Type 0
NamedTable = List ℕ × List (List Value)

-- those that are given
abbrev pub named_tables : List (List ℕ × Vec (List Value)) → List NamedTable
named_tables given = map (λ g. (g.0, g.1.items)) given

-- the rows that are given under a name; of several the last, and none where it is not there
abbrev pub rows_named : List NamedTable → List ℕ → List (List Value)
rows_named given name = fold (λ rows g. if same_name g.0 name then g.1 else rows) [] given

-- the database of a catalog and these rows
abbrev pub database_with : Catalog → List NamedTable → Database
database_with catalog given = record {
  number = catalog.number;
  tables = map (λ table. stored_in_order table (rows_named given table.name)) catalog.tables;
  indexes = catalog.indexes;
}

-- whether no row has the key of another
abbrev pub have_different_keys : Table → List (List Value) → Bool
have_different_keys table [] = true
have_different_keys table (row ∷ rows) = not (has same_key (map (key_of table) rows) (key_of table row)) && have_different_keys table rows

-- what a database can begin with: a catalog within the limits, whose keys are on columns and whose index rules are on tables
-- that are there; and for each table its rows, admitted, with different keys
pub record CanStart (catalog : Catalog) (given : List NamedTable) : Type 0 where
  pub narrow : HasNarrowTables catalog
  pub tables : IsDatabase (without_rows catalog)
  pub admitted : IsTrue (list_all (λ table. list_all (is_admitted table) (rows_named given table.name)) catalog.tables)
  pub keys : IsTrue (list_all (λ table. have_different_keys table (rows_named given table.name)) catalog.tables)

-- a table's rows in key order, each under its key
abbrev pub entries_in_order : Table → List (List Value) → List Entry
entries_in_order table rows = entries_of table (in_order key_cmp (key_of table) rows)

-- the tables of a catalog with the rows that are given
abbrev pub tables_with : Catalog → List NamedTable → List TableRows
tables_with catalog given = map (λ table. (table, entries_in_order table (rows_named given table.name))) catalog.tables
