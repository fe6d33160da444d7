-- A database with a new table, and with a new index.
use Rattle.std.proofs.Common.{◌≡◌, ℕ, Bool, true, false, ◌&&◌, List, [], ◌∷◌, ◌++◌, map, is_some, refl, sym, ap, ◌∙◌, is_eq}
use Rattle.std.specs.List.{list_all, list_any}
use Rattle.std.specs.Ordering.{eq_by_cmp}
use Rattle.std.proofs.lemmas.Bool.{and_from, not_from_false, or_from, or_parts, or_right}
use Rattle.std.proofs.lemmas.Cmp.{tied_itself}
use Rattle.bf_base.specs.declared.table.Table.{Table}
use Rattle.bf_base.specs.Lists.{has, name_cmp, same_name, when}
use Rattle.bf_base.proofs.Apart.{apart_from_rises, rises-placed_apart}
use Rattle.bf_base.proofs.Names.{name_cmp_total, same_name-tie}
use Rattle.bf_base.proofs.Order.{is_some-look_up, list_all-placed, list_all-with_placed, list_any-with_placed, rises-placed}
use Rattle.bf_tree.specs.declared.catalog.IndexRule.{IndexRule}
use Rattle.bf_tree.specs.declared.statement.ColumnRule.{ColumnRule}
use Rattle.bf_tree.specs.declared.reply.Refusal.TheVariants as refusal
use Rattle.bf_sql.specs.Database.{Database, Stored, IsDatabase, is_keyed, is_on_table, is_within, stored_at, stored_in_order, table_at, with_tables}
use Rattle.bf_sql.specs.Meaning.{index_of, next_number, created_table, with_index}
use Rattle.bf_sql.specs.Objections.{column_names, names_objections, new_index_objections, new_table_objections, rule_names, rules_objections, table_objections}
use Rattle.bf_live.proofs.querying.Binding.{found}
use Rattle.bf_live.proofs.querying.Effects.{nothing_before, not_when}
use Rattle.bf_live.proofs.keeps.Items.{any_found, list_all_if}
use Rattle.bf_live.proofs.keeps.Places.{named_within, new_key_within}
use Rattle.bf_live.proofs.keeps.Rows.{are_admitted, is_key_within, name_of, stored_at-look_up}

-- no table has a name where none is found
no_table_named : (db : Database) (name : List ℕ) → is_some (stored_at db name) ≡ false
    → has (eq_by_cmp name_cmp) (map name_of db.tables) name ≡ false
no_table_named db name none = sym (is_some-look_up name_cmp_total name_of db.tables name) ∙ ap is_some (sym (stored_at-look_up db name)) ∙ none

-- an index on a table is on it still where there are more tables
still_on_table : (db : Database) (s : Stored) (index : IndexRule) → is_on_table db index ≡ true
    → is_on_table (with_tables (s ∷ []) db) index ≡ true
still_on_table db s index on =
    let fits : Stored → Bool = λ s. same_name s.table.name index.table && is_within s.table index.columns in
    list_any-with_placed name_cmp_total name_of fits [] (s ∷ db.tables) ∙ or_right (fits s) (list_any fits db.tables) on

-- what is true of a table, and of each other one
each_with : (db : Database) (s : Stored) (test : Stored → Bool) → test s ≡ true → list_all test db.tables ≡ true
    → list_all test (with_tables (s ∷ []) db).tables ≡ true
each_with db s test here all = list_all-with_placed name_cmp_total name_of test [] (s ∷ db.tables) ∙ and_from _ _ here all

-- a table of a new name, without rows, with a key of its own columns
pub keeps_new_table : (db : Database) (table : Table) → IsDatabase db → is_some (stored_at db table.name) ≡ false
    → is_within table table.key ≡ true → IsDatabase (next_number (with_tables (stored_in_order table [] ∷ []) db))
keeps_new_table db table is new within =
    let s : Stored = stored_in_order table [] in
    let apart = and_from _ _ (not_from_false _ (no_table_named db table.name new)) (apart_from_rises name_cmp_total (map name_of db.tables) is.tables_by_name) in
    record {
      tables_by_name = rises-placed_apart name_cmp_total name_of [] (s ∷ db.tables) refl apart;
      indexes_by_name = is.indexes_by_name;
      rows_by_key = each_with db s is_keyed refl is.rows_by_key;
      rows_admitted = each_with db s are_admitted refl is.rows_admitted;
      keys_within = each_with db s is_key_within within is.keys_within;
      indexes_on_tables = list_all_if (is_on_table db) (is_on_table (with_tables (s ∷ []) db)) (still_on_table db s) db.indexes is.indexes_on_tables;
    }

-- CREATE TABLE
pub keeps_create_table : (db : Database) (name : List ℕ) (rules : List ColumnRule) (key : List (List ℕ))
    → IsDatabase db → new_table_objections db name rules key ≡ []
    → IsDatabase (next_number (with_tables (stored_in_order (created_table name rules key) [] ∷ []) db))
keeps_create_table db name rules key is none =
    let taken = when (is_some (stored_at db name)) (refusal.TableExists name) in
    let parts = nothing_before (taken ++ rules_objections rules) (names_objections (rule_names rules) key) none in
    let new = not_when (is_some (stored_at db name)) (refusal.TableExists name) (nothing_before taken (rules_objections rules) parts.0).0 in
    keeps_new_table db (created_table name rules key) is new (new_key_within name rules key parts.1)

-- no index has a name that none is objected to
no_index_named : (name : List ℕ) (indexes : List IndexRule) → list_any (λ i. same_name name i.name) indexes ≡ false
    → has (eq_by_cmp name_cmp) (map (λ i. i.name) indexes) name ≡ false
no_index_named name [] none = refl
no_index_named name (i ∷ indexes) none =
    let parts = or_parts (same_name name i.name) (list_any (λ i. same_name name i.name) indexes) none in
    or_from _ _ (sym (same_name-tie name i.name) ∙ parts.0) (no_index_named name indexes parts.1)

-- an index of a new name, on columns of a table that is there
pub keeps_new_index : (db : Database) (index : IndexRule) → IsDatabase db
    → list_any (λ i. same_name index.name i.name) db.indexes ≡ false → is_on_table db index ≡ true
    → IsDatabase (next_number (with_index index db))
keeps_new_index db index is new on =
    let called : IndexRule → List ℕ = λ i. i.name in
    record {
      tables_by_name = is.tables_by_name;
      indexes_by_name = rises-placed name_cmp_total called db.indexes index is.indexes_by_name (no_index_named index.name db.indexes new);
      rows_by_key = is.rows_by_key;
      rows_admitted = is.rows_admitted;
      keys_within = is.keys_within;
      indexes_on_tables = list_all-placed name_cmp_total called (is_on_table db) db.indexes index ∙ and_from _ _ on is.indexes_on_tables;
    }

same_itself : (name : List ℕ) → same_name name name ≡ true
same_itself name = same_name-tie name name ∙ ap is_eq (tied_itself name_cmp_total name)

-- CREATE INDEX
pub keeps_create_index : (db : Database) (name table : List ℕ) (columns : List (List ℕ)) → IsDatabase db
    → table_objections (stored_at db table) table (λ t. new_index_objections db name t columns) ≡ []
    → IsDatabase (next_number (with_index (index_of name (table_at db table) columns) db))
keeps_create_index db name table columns is none =
    let there = found db table (λ t. new_index_objections db name t columns) none in
    let t = table_at db table in
    let index = index_of name t columns in
    let parts = nothing_before (names_objections (column_names t) columns) _ there.nothing in
    let fits : Stored → Bool = λ s. same_name s.table.name t.name && is_within s.table index.columns in
    let on = any_found (λ s. same_name s.table.name table) fits db.tables _ there.stored (and_from _ _ (same_itself t.name) (named_within t columns parts.0)) in
    keeps_new_index db index is (not_when _ _ parts.1) on
