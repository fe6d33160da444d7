-- The database: a finite map from names to tables, each with a finite map from keys to rows, and the index rules.
-- All three are lists in order, and `IsDatabase` says that they are maps.
use Rattle.std.specs.Prelude.{ℕ, Bool, true, false, not, ◌&&◌, List, [], ◌++◌, map, length, filter, find, zip, Option, option_map, unwrap_or, ◌==◌, nat_eq, nat_lt, if◌then◌else◌, IsTrue}
use Rattle.std.specs.List.{list_all, list_any}
use Rattle.std.specs.Ordering.{int_eq}
use lib.Pointwise.{pointwise}
use Rattle.bf_base.specs.declared.value.Value.{Value}
use Rattle.bf_base.specs.declared.table.Admit.{Admit}
use Rattle.bf_base.specs.declared.table.Admit.TheVariants as admits
use Rattle.bf_base.specs.declared.table.Column.{Column}
use Rattle.bf_base.specs.declared.table.Fit.{Fit}
use Rattle.bf_base.specs.declared.table.Fit.TheVariants.{Fits, WrongKind, OutOfRange, TooLong}
use Rattle.bf_base.specs.declared.table.Table.{Table}
use Rattle.bf_base.specs.Values.{key_cmp}
use Rattle.bf_base.specs.Lists.{same_name, name_cmp, rises, in_order}
use Rattle.bf_base.specs.Tables.{fit_of, key_of}
use Rattle.bf_tree.specs.declared.catalog.IndexRule.{IndexRule}

-- a table and all its rows, in the order of their keys
pub record Stored : Type 0 where
  pub table : Table
  pub rows : List (List Value)

-- the number of schema changes so far, and the tables and the index rules in the order of their names
pub record Database : Type 0 where
  pub number : ℕ
  pub tables : List Stored
  pub indexes : List IndexRule

abbrev pub empty_database : Database
empty_database = record { number = 0; tables = []; indexes = [] }

-- the table of a name, with its rows
abbrev pub stored_at : Database → List ℕ → Option Stored
stored_at db name = find (λ s. same_name s.table.name name) db.tables

abbrev pub same_admit : Admit → Admit → Bool
same_admit admits.Int admits.Int = true
same_admit (admits.Checked a b) (admits.Checked c d) = int_eq a c && int_eq b d
same_admit (admits.Varchar m) (admits.Varchar n) = m == n
same_admit a b = false

abbrev pub same_column : Column → Column → Bool
same_column c d = same_name c.name d.name && same_admit c.admits d.admits

-- whether two tables have the same name, columns and key
abbrev pub same_table : Table → Table → Bool
same_table a b = same_name a.name b.name && pointwise same_column a.columns b.columns && pointwise nat_eq a.key b.key

abbrev pub no_table : Table
no_table = record { name = []; columns = []; key = [] }

-- the table of a name; one without columns where there is none
abbrev pub table_at : Database → List ℕ → Table
table_at db name = unwrap_or (option_map (λ s. s.table) (stored_at db name)) no_table

-- all rows of a table in key order
abbrev pub table_rows : Database → List ℕ → List (List Value)
table_rows db name = unwrap_or (option_map (λ s. s.rows) (stored_at db name)) []

-- a table with rows in the order of their keys
abbrev pub stored_in_order : Table → List (List Value) → Stored
stored_in_order table rows = record { table = table; rows = in_order key_cmp (key_of table) rows }

-- the database without the tables that a test picks, and without their indexes
abbrev pub without : (List ℕ → Bool) → Database → Database
without gone db = record db { tables = filter (λ s. not (gone s.table.name)) db.tables; indexes = filter (λ i. not (gone i.table)) db.indexes }

-- the database with further tables
abbrev pub with_tables : List Stored → Database → Database
with_tables more db = record db { tables = in_order name_cmp (λ s. s.table.name) (more ++ db.tables) }

-- the database with other rows, in key order, in the table of a name
abbrev pub with_rows : Database → List ℕ → List (List Value) → Database
with_rows db name rows = record db { tables = map (λ (s : Stored). if same_name s.table.name name then record s { rows = rows } else s) db.tables }

abbrev pub is_fit : Fit → Bool
is_fit Fits = true
is_fit WrongKind = false
is_fit OutOfRange = false
is_fit TooLong = false

-- a row has a value for each column, and each column admits its value
abbrev pub is_admitted : Table → List Value → Bool
is_admitted table row = if length row == length table.columns then list_all (λ p. is_fit (fit_of p.0.admits p.1)) (zip table.columns row) else false

-- the rows are a finite map: each key comes before the next, so none comes twice
abbrev pub is_keyed : Stored → Bool
is_keyed s = rises key_cmp (map (key_of s.table) s.rows)

-- places are those of a table's columns
abbrev pub is_within : Table → List ℕ → Bool
is_within table places = list_all (λ place. nat_lt place (length table.columns)) places

-- an index is on columns of a table that is there
abbrev pub is_on_table : Database → IndexRule → Bool
is_on_table db index = list_any (λ s. same_name s.table.name index.table && is_within s.table index.columns) db.tables

-- what is true of each database
pub record IsDatabase (db : Database) : Type 0 where
  pub tables_by_name : IsTrue (rises name_cmp (map (λ s. s.table.name) db.tables))
  pub indexes_by_name : IsTrue (rises name_cmp (map (λ i. i.name) db.indexes))
  pub rows_by_key : IsTrue (list_all is_keyed db.tables)
  pub rows_admitted : IsTrue (list_all (λ s. list_all (is_admitted s.table) s.rows) db.tables)
  pub keys_within : IsTrue (list_all (λ s. is_within s.table s.table.key) db.tables)
  pub indexes_on_tables : IsTrue (list_all (is_on_table db) db.indexes)
