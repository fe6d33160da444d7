-- The live tables with one table more, and with one index rule more.
use Rattle.std.proofs.Common.{◌≡◌, ℕ, ◌+◌, true, false, cond, List, [], ◌∷◌, map, find, Less, Equal, Greater, Option, Some, None, is_some, option_map, refl, sym, ap, subst, ◌∙◌, is_eq}
use Rattle.std.specs.BTreeMap.{insert_entry, is_at}
use Rattle.std.specs.List.{All}
use Rattle.std.specs.Map.{lookup, remove_entry}
use Rattle.std.specs.Ordering.{eq_by_cmp, match_ordering}
use Rattle.std.proofs.lemmas.Bool.{and_from, and_parts, not-true, not_from_false}
use Rattle.std.proofs.lemmas.Cmp.{tied_itself}
use Rattle.std.proofs.lemmas.Grind.{fold-append}
use Rattle.bf_base.specs.declared.table.Table.{Table}
use Rattle.bf_base.specs.Lists.{has, in_order, name_cmp, placed, rises, same_name}
use Rattle.bf_base.proofs.Apart.{are_apart, apart_from_rises, are_apart-same_items, in_order-rises, map-placed, placed-same_items, with_placed-items, with_placed-same_items}
use Rattle.bf_base.proofs.Items.{mapped, other_way}
use Rattle.bf_base.proofs.Names.{name_cmp_total, same_name-tie, same_name-tie_back}
use Rattle.bf_base.proofs.Order.{is_some-look_up, none_from_test}
use Rattle.bf_heap.specs.Heaps.{Rows}
use Rattle.bf_tree.specs.Catalogs.{Catalog}
use Rattle.bf_tree.specs.Places.{index_named, table_named, with_new_table}
use Rattle.bf_tree.specs.declared.catalog.IndexRule.{IndexRule}
use Rattle.bf_sql.specs.Database.{Database, IsDatabase, Stored, stored_at, stored_in_order, with_tables}
use Rattle.bf_sql.specs.Meaning.{next_number, with_index}
use Rattle.bf_live.specs.Drafts.{drafted_at, name_of_rows}
use Rattle.bf_live.specs.Live.{AreLiveTables, IsUnderOwnKeys, NamedHeap, NamedRows, TableRows, database_of, rows_in, stored}
use Rattle.bf_live.specs.Meanings.{entries_of}
use Rattle.bf_live.proofs.Held.{held, name_of, rows_found, rows_held}
use Rattle.bf_live.proofs.Paired.{all_placed, one_each_with, paired, paired_with, table_not_there}

-- a table of a new name among those in order
in_order_with : (s : Stored) (all : List Stored) → rises name_cmp (map name_of all) ≡ true → find (λ t. same_name t.table.name s.table.name) all ≡ None → in_order name_cmp name_of (s ∷ all) ≡ placed name_cmp name_of all s
in_order_with s all h none =
    let new : has (eq_by_cmp name_cmp) (map name_of all) (name_of s) ≡ false =
    sym (is_some-look_up name_cmp_total name_of all (name_of s)) ∙ ap is_some ((λ i. find (λ t. sym (same_name-tie t.table.name s.table.name) i) all) ∙ none) in
    let apart : are_apart (eq_by_cmp name_cmp) (map name_of (s ∷ all)) ≡ true = and_from _ _ (not_from_false _ new) (apart_from_rises name_cmp_total (map name_of all) h) in
    with_placed-same_items name_cmp_total name_of (other_way (s ∷ []) all) [] apart
    ∙ fold-append (placed name_cmp name_of) [] all (s ∷ [])
    ∙ ap (λ (all : List Stored). placed name_cmp name_of all s) (in_order-rises name_cmp_total name_of all h)

-- a database with one more table had none of its name
pub new_is_fresh : (db : Database) (table : Table) → IsDatabase (next_number (with_tables (stored_in_order table [] ∷ []) db)) → stored_at db table.name ≡ None
new_is_fresh db table is =
    let all : List Stored = stored_in_order table [] ∷ db.tables in
    let apart : are_apart (eq_by_cmp name_cmp) (map name_of all) ≡ true =
    are_apart-same_items name_cmp_total (mapped name_of (with_placed-items name_cmp_total name_of [] all))
    ∙ apart_from_rises name_cmp_total (map name_of (in_order name_cmp name_of all)) is.tables_by_name in
    let new : has (eq_by_cmp name_cmp) (map name_of db.tables) table.name ≡ false = not-true _ (and_parts _ _ apart).0 in
    none_from_test _ (ap is_some (λ i. find (λ (t : Stored). same_name-tie t.table.name table.name i) db.tables)
    ∙ (is_some-look_up name_cmp_total name_of db.tables table.name ∙ new))

-- ---- a new heap
module _ {X : Type 0} (n : List ℕ) (x : X) where
  -- taken out again
  pub removed_again : (es : List (List ℕ × X)) → lookup (is_at (name_cmp n)) es ≡ None → remove_entry (is_at (name_cmp n)) (insert_entry name_cmp es n x) ≡ es
  removed_again [] none = rw (tied_itself name_cmp_total n) refl
  removed_again (e ∷ es) none =
      elim (name_cmp n e.0) as (λ r. name_cmp n e.0 ≡ r → cond (is_eq r) (Some e.1) (lookup (is_at (name_cmp n)) es) ≡ None
      → remove_entry (is_at (name_cmp n)) (match_ordering r ((n, x) ∷ e ∷ es) ((e.0, x) ∷ es) (e ∷ insert_entry name_cmp es n x)) ≡ e ∷ es) [
        | Less ↦ λ is h. rw (tied_itself name_cmp_total n) refl
        | Equal ↦ λ is h. absurd cc
        | Greater ↦ λ is h. rw (is, removed_again es h) refl
      ] refl none

-- ---- a new table with its rows
-- a heap is found where its rows are
pub none_found : (name : List ℕ) (heaps : List NamedHeap) → lookup (is_at (name_cmp name)) (rows_in heaps) ≡ None → lookup (is_at (name_cmp name)) heaps ≡ None
none_found name heaps none = nothing (lookup (is_at (name_cmp name)) heaps) (rows_found name heaps ∙ none)
  where
    nothing : (o : Option Rows) → option_map (λ (h : Rows). h.entries) o ≡ None → o ≡ None
    nothing None e = refl
    nothing (Some h) e = absurd cc

-- a name that no table has together with its rows
drafted_held : (name : List ℕ) (all : List TableRows) → find (λ (s : Stored). same_name s.table.name name) (map stored all) ≡ None → drafted_at all name ≡ None
drafted_held name [] none = refl
drafted_held name (t ∷ ts) none =
    elim (same_name t.0.name name) as (λ b. cond b (Some (stored t)) (find (λ (s : Stored). same_name s.table.name name) (map stored ts)) ≡ None → cond b (Some t) (drafted_at ts name) ≡ None) [
      | true ↦ λ h. absurd cc
      | false ↦ λ h. drafted_held name ts h
    ] none

module _ (catalog : Catalog) (rows : List NamedRows) (live : AreLiveTables catalog rows) (db : Database) (is : database_of catalog rows ≡ db) where
  module _ (table : Table) (database : IsDatabase (next_number (with_tables (stored_in_order table [] ∷ []) db))) where
    abbrev before : List TableRows
    before = paired catalog.tables rows

    none_held : find (λ (s : Stored). same_name s.table.name table.name) (held catalog.tables rows) ≡ None
    none_held = ap (λ (db : Database). stored_at db table.name) is ∙ new_is_fresh db table database

    pub table_is_new : table_named catalog table.name ≡ None
    table_is_new = table_not_there catalog.tables rows live.one_each before refl table [] (drafted_held table.name before none_held)

    pub rows_are_new : lookup (is_at (name_cmp table.name)) rows ≡ None
    rows_are_new = rows_held catalog rows live db is table.name ∙ ap (option_map (λ (s : Stored). entries_of s.table s.rows)) (new_is_fresh db table database)

    abbrev after : List TableRows
    after = placed name_cmp name_of_rows before (table, [])

    abbrev tables_after : List Table
    tables_after = (with_new_table table catalog).tables

    abbrev rows_after : List NamedRows
    rows_after = insert_entry name_cmp rows table.name []

    pairs : paired tables_after rows_after ≡ after
    pairs = paired_with catalog.tables rows live.one_each before refl table [] (drafted_held table.name before none_held) tables_after rows_after refl refl

    held_after : held tables_after rows_after ≡ placed name_cmp name_of (held catalog.tables rows) (stored (table, []))
    held_after = ap (map stored) pairs ∙ map-placed name_cmp_total name_of_rows name_of stored (λ t. refl) before (table, [])

    pub view_created : database_of (with_new_table table catalog) rows_after ≡ next_number (with_tables (stored_in_order table [] ∷ []) db)
    view_created =
        ap (λ ts. record { number = catalog.number + 1; tables = ts; indexes = catalog.indexes }) (held_after ∙ sym (in_order_with (stored (table, [])) (held catalog.tables rows) live.database.tables_by_name none_held))
        ∙ ap (λ (db : Database). next_number (with_tables (stored_in_order table [] ∷ []) db)) is

    pub store_created : AreLiveTables (with_new_table table catalog) rows_after
    store_created = record {
      one_each = one_each_with catalog.tables rows live.one_each before refl table [] (drafted_held table.name before none_held) tables_after rows_after refl refl;
      under_own_keys = subst (All IsUnderOwnKeys) (sym pairs) (all_placed IsUnderOwnKeys (table, []) before refl live.under_own_keys);
      database = subst IsDatabase (sym view_created) database;
    }

  -- nor had a database with one more index rule one of its name
  module _ (index : IndexRule) (database : IsDatabase (next_number (with_index index db))) where
    pub index_is_new : index_named catalog index.name ≡ None
    index_is_new =
        let names : List (List ℕ) = map (λ (i : IndexRule). i.name) db.indexes in
        let apart : are_apart (eq_by_cmp name_cmp) (map (λ (i : IndexRule). i.name) (index ∷ db.indexes)) ≡ true =
        are_apart-same_items name_cmp_total (mapped (λ (i : IndexRule). i.name) (placed-same_items name_cmp_total (λ (i : IndexRule). i.name) db.indexes index))
        ∙ apart_from_rises name_cmp_total (map (λ (i : IndexRule). i.name) (placed name_cmp (λ (i : IndexRule). i.name) db.indexes index)) database.indexes_by_name in
        let new : has (eq_by_cmp name_cmp) names index.name ≡ false = not-true _ (and_parts _ _ apart).0 in
        ap (λ (db : Database). find (λ (i : IndexRule). same_name index.name i.name) db.indexes) is
        ∙ none_from_test _ (ap is_some (λ i. find (λ (r : IndexRule). same_name-tie_back index.name r.name i) db.indexes)
        ∙ (is_some-look_up name_cmp_total (λ (i : IndexRule). i.name) db.indexes index.name ∙ new))
