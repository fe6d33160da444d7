-- Databases with one catalog, and the rows that they have alike.
use Rattle.std.proofs.Common.{◌≡◌, ℕ, Bool, true, false, cond, List, [], ◌∷◌, map, find, Option, Some, option_map, unwrap_or, refl, sym, ap, ◌∙◌, is_eq}
use Rattle.std.specs.Option.{option_to_list}
use Rattle.bf_base.specs.declared.value.Value.{Value}
use Rattle.bf_base.specs.declared.table.Table.{Table}
use Rattle.bf_base.specs.Lists.{same_key, same_name}
use Rattle.bf_base.specs.Tables.{cell, key_of}
use Rattle.bf_base.specs.Values.{key_cmp}
use Rattle.bf_sql.specs.Bound.{is_planned, action_of, without_rows, bound_of, catalog_of}
use Rattle.bf_tree.specs.Trees.{Cond}
use Rattle.bf_heap.specs.Heaps.{Entry, row_under}
use Rattle.bf_tree.specs.declared.catalog.Catalog.{Catalog}
use Rattle.bf_tree.specs.declared.statement.Statement.{Statement}
use Rattle.bf_sql.specs.Conditions.{fixed_key}
use Rattle.bf_sql.specs.Database.{Database, Stored, IsDatabase, no_table, stored_at, table_at, table_rows}
use Rattle.bf_sql.specs.Objections.{objections}
use Rattle.bf_sql.specs.Queries.{selected}
use Rattle.bf_live.specs.Meanings.{entries_of}
use Rattle.bf_live.proofs.querying.Binding.{as_stored}
use Rattle.bf_live.proofs.querying.OwnKeys.{fixed_selected}
use Rattle.bf_live.proofs.querying.RowsAsEntries.{hold_rows, rows_are}
use Rattle.bf_live.proofs.statements.Bare.{either_found, same_action, same_bound, same_objections}
use Rattle.bf_sql.specs.Agreement.{row_at}

-- the table of a name, in a catalog
abbrev pub table_in : Catalog → List ℕ → Option Table
table_in catalog name = find (λ t. same_name t.name name) catalog.tables

pub table_is : (db : Database) (name : List ℕ) → table_in (catalog_of db) name ≡ option_map (λ s. s.table) (stored_at db name)
table_is db name = found db.tables
  where
    found : (tables : List Stored) → find (λ (t : Table). same_name t.name name) (map (λ (s : Stored). s.table) tables) ≡ option_map (λ s. s.table) (find (λ (s : Stored). same_name s.table.name name) tables)
    found [] = refl
    found (s ∷ tables) = either_found (λ (s : Stored). s.table) (same_name s.table.name name) s _ _ (found tables)

module _ (a b : Database) (same : catalog_of a ≡ catalog_of b) where
  pub tables_alike : (name : List ℕ) → option_map (λ s. s.table) (stored_at a name) ≡ option_map (λ s. s.table) (stored_at b name)
  tables_alike name = sym (table_is a name) ∙ ap (λ (c : Catalog). table_in c name) same ∙ table_is b name

  pub table_at_alike : (name : List ℕ) → table_at a name ≡ table_at b name
  table_at_alike name = ap (λ (o : Option Table). unwrap_or o no_table) (tables_alike name)

  -- one statement is bound alike
  pub bound_alike : (in_block : Bool) (s : Statement) → is_planned in_block s ≡ false → bound_of a in_block s ≡ bound_of b in_block s
  bound_alike in_block s planned = sym (same_bound a in_block s planned) ∙ ap (λ (c : Catalog). bound_of (without_rows c) in_block s) same ∙ same_bound b in_block s planned

  pub objections_alike : (in_block : Bool) (s : Statement) → is_planned in_block s ≡ false → objections a in_block s ≡ objections b in_block s
  objections_alike in_block s planned = sym (same_objections a in_block s planned) ∙ ap (λ (c : Catalog). objections (without_rows c) in_block s) same ∙ same_objections b in_block s planned

  pub action_alike : (s : Statement) → action_of a s ≡ action_of b s
  action_alike s = sym (same_action a s) ∙ ap (λ (c : Catalog). action_of (without_rows c) s) same ∙ same_action b s

-- the row at a key, among rows and among their entries
pub row_in : Table → List (List Value) → List Value → Option (List Value)
row_in table rows key = find (λ row. same_key (key_of table row) key) rows

pub row_is : (table : Table) (rows : List (List Value)) (key : List Value) → row_under (entries_of table rows) key ≡ find (λ row. same_key (key_of table row) key) rows
row_is table [] key = refl
row_is table (row ∷ rows) key =
    let rest = row_is table rows key in
    elim (is_eq (key_cmp (key_of table row) key)) as (λ b. option_map (λ (e : Entry). e.1) (cond b (Some (key_of table row, row)) (find (λ (e : Entry). is_eq (key_cmp e.0 key)) (entries_of table rows)))
    ≡ cond b (Some row) (find (λ row. same_key (key_of table row) key) rows)) [ true ↦ refl | false ↦ rest ]

-- a table that a database has
module _ (db : Database) (database : IsDatabase db) (table : Table) (stored : stored_at db table.name ≡ Some (as_stored table (table_rows db table.name))) where
  pub own_table : table_at db table.name ≡ table
  own_table = ap (λ (o : Option Stored). unwrap_or (option_map (λ (s : Stored). s.table) o) no_table) stored

  pub row_at_is : (key : List Value) → row_at db table.name key ≡ row_under (entries_of table (table_rows db table.name)) key
  row_at_is key =
      ap (λ (t : Table). find (λ row. same_key (key_of t row) key) (table_rows db table.name)) own_table
      ∙ sym (row_is table (table_rows db table.name) key)

  -- a condition that fixes a key selects among the row at that key
  pub selected_at : (c : Cond ℕ) (key : List Value) → fixed_key table c ≡ Some key → selected cell c (table_rows db table.name) ≡ selected cell c (option_to_list (row_at db table.name key))
  selected_at c key fixed =
      let rows = table_rows db table.name in
      let held = hold_rows db table database stored in
      sym (ap (λ (o : Option (List Value)). selected cell c (option_to_list o)) (row_at_is key)
      ∙ fixed_selected table c key (entries_of table rows) [] held.entries_by_key held.under_own_keys fixed
      ∙ ap (selected cell c) (rows_are table rows))
