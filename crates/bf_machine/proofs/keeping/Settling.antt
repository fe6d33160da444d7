-- A table or an index rule more than what is seen has is one more than the live tables have.
use Rattle.std.proofs.Common.{◌≡◌, Bool, true, false, ◌&&◌, List, [], ◌∷◌, map, find, Option, Some, None, is_some, option_map, refl, sym, ap, subst, ◌∙◌}
use Rattle.std.specs.List.{list_all}
use Rattle.std.specs.Ordering.{eq_by_cmp}
use Rattle.std.proofs.lemmas.Bool.{and_parts, not-true}
use Rattle.std.proofs.lemmas.List.Folds.{list_all-map}
use Rattle.std.proofs.lemmas.Simd.{map-map}
use Rattle.bf_base.specs.declared.table.Table.{Table}
use Rattle.bf_base.specs.Lists.{has, in_order, name_cmp, rises, same_name}
use Rattle.bf_base.proofs.Apart.{are_apart, apart_from_rises, are_apart-same_items, with_placed-items}
use Rattle.bf_base.proofs.Items.{mapped}
use Rattle.bf_base.proofs.Names.{name_cmp_total, same_name-tie}
use Rattle.bf_base.proofs.Order.{is_some-look_up, list_all-with_placed, list_any-map}
use Rattle.bf_tree.specs.Limits.{HasNarrowTables, is_narrow}
use Rattle.bf_tree.specs.declared.catalog.IndexRule.{IndexRule}
use Rattle.bf_sql.specs.Bound.{catalog_of}
use Rattle.bf_sql.specs.Database.{Database, Stored, IsDatabase, is_admitted, is_keyed, is_on_table, is_within, stored_at, stored_in_order, with_tables}
use Rattle.bf_sql.specs.Meaning.{next_number, with_index}
use Rattle.bf_sql.specs.migrations.Lazy.{LazyState, seen, view_of}
use Rattle.bf_image.proofs.items.Lists.{all_so}
use Rattle.bf_store.specs.States.{IsLazy}
use Rattle.bf_store.proofs.changing.Changing.{view_with_table}
use Rattle.bf_store.proofs.coming.Found.{name_of}
use Rattle.bf_store.proofs.seeing.Viewing.{seen_there}

-- a database with one more table had none of its name
none_before : (db : Database) (table : Table) → IsDatabase (next_number (with_tables (stored_in_order table [] ∷ []) db)) → is_some (stored_at db table.name) ≡ false
none_before db table is =
    let all : List Stored = stored_in_order table [] ∷ db.tables in
    let apart : are_apart (eq_by_cmp name_cmp) (map name_of all) ≡ true =
    are_apart-same_items name_cmp_total (mapped name_of (with_placed-items name_cmp_total name_of [] all))
    ∙ apart_from_rises name_cmp_total (map name_of (in_order name_cmp name_of all)) is.tables_by_name in
    let new : has (eq_by_cmp name_cmp) (map name_of db.tables) table.name ≡ false = not-true _ (and_parts _ _ apart).0 in
    ap is_some (λ i. find (λ (t : Stored). same_name-tie t.table.name table.name i) db.tables)
    ∙ (is_some-look_up name_cmp_total name_of db.tables table.name ∙ new)

as_many : (last : Option Stored) (f : Stored → Stored) → is_some (option_map f last) ≡ is_some last
as_many None f = refl
as_many (Some s) f = refl

-- a new table is as narrow as the tables that are seen with it
pub narrow_table : (lazy : LazyState) (table : Table) → HasNarrowTables (catalog_of (next_number (with_tables (stored_in_order table [] ∷ []) (view_of lazy)))) → is_narrow table ≡ true
narrow_table lazy table narrow =
    let test : Stored → Bool = λ s. is_narrow s.table in
    let all : List Stored = stored_in_order table [] ∷ (view_of lazy).tables in
    let each : list_all test all ≡ true =
    sym (list_all-map is_narrow (λ (s : Stored). s.table) (in_order name_cmp name_of all) ∙ list_all-with_placed name_cmp_total name_of test [] all) ∙ narrow in
    (and_parts _ _ each).0

module _ (lazy : LazyState) (is : IsLazy lazy) where
  module _ (table : Table) (database : IsDatabase (next_number (with_tables (stored_in_order table [] ∷ []) (view_of lazy)))) where
    pub absent : is_some (stored_at lazy.live table.name) ≡ false
    absent =
        sym (ap is_some (seen_there lazy is table.name) ∙ as_many (stored_at lazy.live table.name) (seen lazy.last))
        ∙ none_before (view_of lazy) table database

    abbrev larger : Database
    larger = next_number (with_tables (stored_in_order table [] ∷ []) lazy.live)

    shown : IsDatabase (view_of (record lazy { live = larger }))
    shown = subst IsDatabase (sym (view_with_table lazy is table absent)) database

    pub table_database : IsDatabase larger
    table_database = record {
      tables_by_name = sym (ap (rises name_cmp) (map-map name_of (seen lazy.last) larger.tables)) ∙ shown.tables_by_name;
      indexes_by_name = shown.indexes_by_name;
      rows_by_key = list_all-with_placed name_cmp_total name_of is_keyed [] (stored_in_order table [] ∷ lazy.live.tables) ∙ is.live.rows_by_key;
      rows_admitted = list_all-with_placed name_cmp_total name_of (λ s. list_all (is_admitted s.table) s.rows) [] (stored_in_order table [] ∷ lazy.live.tables) ∙ is.live.rows_admitted;
      keys_within = sym (list_all-map (λ s. is_within s.table s.table.key) (seen lazy.last) larger.tables) ∙ shown.keys_within;
      indexes_on_tables =
          all_so (is_on_table (view_of (record lazy { live = larger }))) (is_on_table larger)
          (λ index on. sym (list_any-map (λ s. same_name s.table.name index.table && is_within s.table index.columns) (seen lazy.last) larger.tables) ∙ on) larger.indexes shown.indexes_on_tables;
    }

  pub index_database : (index : IndexRule) → IsDatabase (next_number (with_index index (view_of lazy))) → IsDatabase (next_number (with_index index lazy.live))
  index_database index database = record {
    tables_by_name = is.live.tables_by_name;
    indexes_by_name = database.indexes_by_name;
    rows_by_key = is.live.rows_by_key;
    rows_admitted = is.live.rows_admitted;
    keys_within = is.live.keys_within;
    indexes_on_tables =
        all_so (is_on_table (next_number (with_index index (view_of lazy)))) (is_on_table (next_number (with_index index lazy.live)))
        (λ i on. sym (list_any-map (λ s. same_name s.table.name i.table && is_within s.table i.columns) (seen lazy.last) lazy.live.tables) ∙ on) (with_index index lazy.live).indexes database.indexes_on_tables;
  }
