-- A database with other rows in one of its tables.
use Rattle.std.proofs.Common.{◌≡◌, ℕ, Bool, true, false, ◌&&◌, if◌then◌else◌, List, [], ◌∷◌, map, Some, refl, sym, ap, ap₂, ◌∙◌, find}
use Rattle.std.specs.List.{list_all}
use Rattle.std.proofs.lemmas.List.Folds.{list_all-map}
use Rattle.std.proofs.lemmas.Simd.{map-map}
use Rattle.bf_base.specs.declared.value.Value.{Value}
use Rattle.bf_base.specs.declared.table.Table.{Table}
use Rattle.bf_base.specs.Lists.{same_name, name_cmp, rises}
use Rattle.bf_base.proofs.Names.{name_cmp_total, same_name-tie}
use Rattle.bf_base.proofs.Order.{changed_at, list_all-changed_at, look_up}
use Rattle.bf_tree.specs.declared.catalog.IndexRule.{IndexRule}
use Rattle.bf_sql.specs.Database.{Database, Stored, IsDatabase, is_admitted, is_keyed, is_on_table, is_within, stored_at, with_rows}
use Rattle.bf_live.proofs.keeps.Items.{list_all_if, list_any_alike}

abbrev pub name_of : Stored → List ℕ
name_of s = s.table.name

abbrev pub are_admitted : Stored → Bool
are_admitted s = list_all (is_admitted s.table) s.rows

abbrev pub is_key_within : Stored → Bool
is_key_within s = is_within s.table s.table.key

-- the table of a name is a look-up in a list in order
pub stored_at-look_up : (db : Database) (name : List ℕ) → stored_at db name ≡ look_up name_cmp name_of db.tables name
stored_at-look_up db name i = find (λ s. same_name-tie s.table.name name i) db.tables

module _ (db : Database) (name : List ℕ) (rows : List (List Value)) where
  abbrev with_new : Stored → Stored
  with_new s = if same_name s.table.name name then record s { rows = rows } else s

  -- other rows leave each table its name, columns and key
  same_tables : (tables : List Stored) → map (λ s. s.table) (map with_new tables) ≡ map (λ s. s.table) tables
  same_tables [] = refl
  same_tables (s ∷ tables) = ap₂ (λ (t : Table) (ts : List Table). t ∷ ts) (same_table (same_name s.table.name name)) (same_tables tables)
    where
      same_table : (b : Bool) → (if b then record s { rows = rows } else s).table ≡ s.table
      same_table true = refl
      same_table false = refl

  same_names : map name_of (with_rows db name rows).tables ≡ map name_of db.tables
  same_names =
      let name : Table → List ℕ = λ t. t.name in
      sym (map-map name (λ (s : Stored). s.table) (map with_new db.tables)) ∙ ap (map name) (same_tables db.tables) ∙ map-map name (λ (s : Stored). s.table) db.tables

  same_keys : list_all is_key_within (with_rows db name rows).tables ≡ list_all is_key_within db.tables
  same_keys =
      let within : Table → Bool = λ t. is_within t t.key in
      sym (list_all-map within (λ (s : Stored). s.table) (map with_new db.tables)) ∙ ap (list_all within) (same_tables db.tables) ∙ list_all-map within (λ (s : Stored). s.table) db.tables

  still_on_table : (index : IndexRule) → is_on_table (with_rows db name rows) index ≡ is_on_table db index
  still_on_table index =
      let fits : Table → Bool = λ t. same_name t.name index.table && is_within t index.columns in
      list_any_alike (λ (s : Stored). s.table) fits (map with_new db.tables) db.tables (same_tables db.tables)

  same_change : (with_rows db name rows).tables ≡ changed_at name_cmp name_of (λ s. record s { rows = rows }) name db.tables
  same_change i = map (λ (s : Stored). if same_name-tie s.table.name name i then record s { rows = rows } else s) db.tables

  -- where they are admitted and in the order of their keys, it is a database still
  pub keeps_with_rows : (s : Stored) → IsDatabase db → stored_at db name ≡ Some s
      → is_keyed (record s { rows = rows }) ≡ true → are_admitted (record s { rows = rows }) ≡ true
      → IsDatabase (with_rows db name rows)
  keeps_with_rows s is at keyed admitted =
      let found = sym (stored_at-look_up db name) ∙ at in
      let change : Stored → Stored = λ s. record s { rows = rows } in
      record {
        tables_by_name = ap (rises name_cmp) same_names ∙ is.tables_by_name;
        indexes_by_name = is.indexes_by_name;
        rows_by_key = ap (list_all is_keyed) same_change ∙ list_all-changed_at name_cmp_total name_of change is_keyed name s db.tables is.tables_by_name found is.rows_by_key keyed;
        rows_admitted = ap (list_all are_admitted) same_change ∙ list_all-changed_at name_cmp_total name_of change are_admitted name s db.tables is.tables_by_name found is.rows_admitted admitted;
        keys_within = same_keys ∙ is.keys_within;
        indexes_on_tables = list_all_if (is_on_table db) (is_on_table (with_rows db name rows)) (λ index on. still_on_table index ∙ on) db.indexes is.indexes_on_tables;
      }
