-- Rows that are taken out of their tables, and put back.
use Rattle.std.proofs.Common.{◌≡◌, ℕ, ◌+◌, Bool, true, false, not, cond, ◌&&◌, ◌||◌, List, [], ◌∷◌, ◌++◌, map, filter, find, Option, Some, None, option_map, unwrap_or, refl, subst, sym, ap, ap₂, ◌∙◌, inl, inr}
use Rattle.std.specs.Prelude.{if◌then◌else◌}
use Rattle.std.specs.List.{AllByRecursion, list_all}
use Rattle.std.proofs.lemmas.Bool.{and_parts, cases_Bool}
use Rattle.std.proofs.lemmas.List.Folds.{list_all-map}
use Rattle.std.proofs.lemmas.Option.{same_Some}
use Rattle.std.proofs.lemmas.Simd.{map-map}
use Rattle.bf_base.specs.declared.value.Value.{Value}
use Rattle.bf_base.specs.declared.table.Table.{Table}
use Rattle.bf_base.specs.Lists.{has, in_order, name_cmp, rises, same_name}
use Rattle.bf_base.proofs.Apart.{apart_from_rises}
use Rattle.bf_base.proofs.Names.{name_cmp_total}
use Rattle.bf_base.proofs.Parts.{map_itself}
use Rattle.bf_heap.specs.Heaps.{Entry}
use Rattle.bf_live.specs.Meanings.{entries_of}
use Rattle.bf_tree.specs.Catalogs.{Catalog}
use Rattle.bf_tree.specs.declared.catalog.IndexRule.{IndexRule}
use Rattle.bf_sql.specs.Bound.{catalog_of}
use Rattle.bf_sql.specs.Database.{Database, IsDatabase, Stored, is_keyed, is_on_table, is_within, stored_at, table_rows, with_rows}
use Rattle.bf_live.specs.Aside.{OneMoreIsBack, OneMoreIsTaken, RowsComeBack, RowsLeaveUnread, set_aside}
use Rattle.bf_live.specs.Drafts.{CanExchange, IsExchangeOf, Prepared}
use Rattle.bf_live.specs.Live.{exchanged, stored}
use Rattle.bf_live.proofs.Heaps.{is_one}
use Rattle.bf_live.proofs.Held.{name_of}
use Rattle.bf_live.proofs.Swapped.{OfName, each_of_name}
use Rattle.bf_live.proofs.keeps.Items.{list_all_if, list_any_alike}
use Rattle.bf_live.proofs.keeps.Rows.{are_admitted, is_key_within}

-- a table without its rows
abbrev bare : Stored → Stored
bare s = record s { rows = [] }

abbrev aside : List (List ℕ) → Stored → Stored
aside names s = if has same_name names s.table.name then bare s else s

abbrev with_new : List ℕ → List (List Value) → Stored → Stored
with_new name rows s = if same_name s.table.name name then record s { rows = rows } else s

-- ---- a database whose tables are changed one by one, each to rows that it may have
module _ (change : Stored → Stored) (same_table : (s : Stored) → (change s).table ≡ s.table) (keyed : (s : Stored) → is_keyed s ≡ true → is_keyed (change s) ≡ true) (admitted : (s : Stored) → are_admitted s ≡ true → are_admitted (change s) ≡ true) (db : Database) where
  abbrev after : Database
  after = record db { tables = map change db.tables }

  same_tables : map (λ (s : Stored). s.table) after.tables ≡ map (λ (s : Stored). s.table) db.tables
  same_tables = map-map (λ (s : Stored). s.table) change db.tables ∙ (λ i. map (λ s. same_table s i) db.tables)

  still_on_table : (index : IndexRule) → is_on_table after index ≡ is_on_table db index
  still_on_table index = list_any_alike (λ (s : Stored). s.table) (λ (t : Table). same_name t.name index.table && is_within t index.columns) after.tables db.tables same_tables

  keeps_changed : IsDatabase db → IsDatabase after
  keeps_changed is = record {
    tables_by_name = ap (rises name_cmp) (map-map name_of change db.tables ∙ (λ i. map (λ s. (same_table s i).name) db.tables)) ∙ is.tables_by_name;
    indexes_by_name = is.indexes_by_name;
    rows_by_key = list_all-map is_keyed change db.tables ∙ list_all_if is_keyed (λ s. is_keyed (change s)) keyed db.tables is.rows_by_key;
    rows_admitted = list_all-map are_admitted change db.tables ∙ list_all_if are_admitted (λ s. are_admitted (change s)) admitted db.tables is.rows_admitted;
    keys_within = list_all-map is_key_within change db.tables ∙ (λ i. list_all (λ s. is_within (same_table s i) (same_table s i).key) db.tables) ∙ is.keys_within;
    indexes_on_tables = list_all_if (is_on_table db) (is_on_table after) (λ index on. still_on_table index ∙ on) db.indexes is.indexes_on_tables;
  }

-- no rows are in order, and admitted
bare_table : (b : Bool) (s : Stored) → (cond b (bare s) s).table ≡ s.table
bare_table true s = refl
bare_table false s = refl

bare_keyed : (b : Bool) (s : Stored) → is_keyed s ≡ true → is_keyed (cond b (bare s) s) ≡ true
bare_keyed true s keyed = refl
bare_keyed false s keyed = keyed

bare_admitted : (b : Bool) (s : Stored) → are_admitted s ≡ true → are_admitted (cond b (bare s) s) ≡ true
bare_admitted true s admitted = refl
bare_admitted false s admitted = admitted

pub keeps_without_rows : (db : Database) (name : List ℕ) → IsDatabase db → IsDatabase (with_rows db name [])
keeps_without_rows db name = keeps_changed (with_new name []) (λ s. bare_table (same_name s.table.name name) s) (λ s. bare_keyed (same_name s.table.name name) s) (λ s. bare_admitted (same_name s.table.name name) s) db

module _ (db : Database) (names : List (List ℕ)) where
  pub keeps_aside : IsDatabase db → IsDatabase (set_aside names db)
  keeps_aside = keeps_changed (aside names) (λ s. bare_table (has same_name names s.table.name) s) (λ s. bare_keyed (has same_name names s.table.name) s) (λ s. bare_admitted (has same_name names s.table.name) s) db

  pub catalog_aside : catalog_of (set_aside names db) ≡ catalog_of db
  catalog_aside = ap (λ ts. record { number = db.number; tables = ts; indexes = db.indexes })
      (map-map (λ (s : Stored). s.table) (aside names) db.tables ∙ (λ i. map (λ s. bare_table (has same_name names s.table.name) s i) db.tables))

abbrev with_tables_of : Database → List Stored → Database
with_tables_of db tables = record db { tables = tables }

pub none_aside : (db : Database) → set_aside [] db ≡ db
none_aside db = ap (with_tables_of db) (map_itself (aside []) (λ s. refl) db.tables)

-- ---- one table more
taken : (names : List (List ℕ)) (name : List ℕ) (s : Stored) → with_new name [] (aside names s) ≡ aside (name ∷ names) s
taken names name s = elim (has same_name names s.table.name) as (λ b. with_new name [] (cond b (bare s) s) ≡ cond (same_name s.table.name name || b) (bare s) s) [
  | true ↦ elim (same_name s.table.name name) as (λ a. cond a (bare s) (bare s) ≡ cond (a || true) (bare s) s) [ true ↦ refl | false ↦ refl ]
  | false ↦ elim (same_name s.table.name name) as (λ a. cond a (bare s) s ≡ cond (a || false) (bare s) s) [ true ↦ refl | false ↦ refl ]
]

pub one_more_is_taken : OneMoreIsTaken
one_more_is_taken db names name = ap (with_tables_of db) (map-map (with_new name []) (aside names) db.tables ∙ (λ i. map (λ s. taken names name s i) db.tables))

-- ---- one table fewer
-- the rows of the table of a name are its own
own_rows : (db : Database) (name : List ℕ) → IsDatabase db → AllByRecursion (OfName (λ s. s.rows ≡ table_rows db name) name) db.tables
own_rows db name is =
    each_of_name (λ s. s.rows ≡ table_rows db name) name db.tables (apart_from_rises name_cmp_total (map name_of db.tables) is.tables_by_name)
    (λ s found. sym (ap (λ (o : Option Stored). unwrap_or (option_map (λ (s : Stored). s.rows) o) []) found))

module _ (names : List (List ℕ)) (name : List ℕ) (rows : List (List Value)) (none : has same_name names name ≡ false) where
  back : (s : Stored) → OfName (λ s. s.rows ≡ rows) name s → with_new name rows (aside (name ∷ names) s) ≡ aside names s
  back s own = elim (cases_Bool (same_name s.table.name name)) [
    | inl same ↦
        let here : has same_name names s.table.name ≡ false = ap (has same_name names) (is_one s.table.name name same) ∙ none in
        rw (same, same, here) (ap (λ rs. record { table = s.table; rows = rs }) (sym (own same)))
    | inr other ↦ rw other (elim (has same_name names s.table.name) as (λ b. with_new name rows (cond b (bare s) s) ≡ cond b (bare s) s) [
      | true ↦ rw other refl
      | false ↦ rw other refl
    ])
  ]

  all_back : (all : List Stored) → AllByRecursion (OfName (λ s. s.rows ≡ rows) name) all → map (with_new name rows) (map (aside (name ∷ names)) all) ≡ map (aside names) all
  all_back [] own = refl
  all_back (s ∷ all) own = ap₂ (λ s (ss : List Stored). s ∷ ss) (back s own.0) (all_back all own.1)

pub one_more_is_back : OneMoreIsBack
one_more_is_back db names name is none = ap (with_tables_of db) (all_back names name (table_rows db name) none db.tables (own_rows db name is))

pub rows_come_back : RowsComeBack
rows_come_back db name is =
    ap (λ (db' : Database). with_rows db' name (table_rows db name)) (ap (λ (db : Database). with_rows db name []) (sym (none_aside db)) ∙ one_more_is_taken db [] name)
    ∙ one_more_is_back db [] name is refl ∙ none_aside db

-- ---- an exchange
left_alike : (gone : List (List ℕ)) (name : List ℕ) (rows : List (List Value)) → has same_name gone name ≡ true → (all : List Stored)
    → filter (λ s. not (has same_name gone s.table.name)) (map (with_new name rows) all) ≡ filter (λ s. not (has same_name gone s.table.name)) all
left_alike gone name rows leaves [] = refl
left_alike gone name rows leaves (s ∷ all) = elim (cases_Bool (same_name s.table.name name)) [
  | inl same ↦
      let here : has same_name gone s.table.name ≡ true = ap (has same_name gone) (is_one s.table.name name same) ∙ leaves in
      rw (same, here) (left_alike gone name rows leaves all)
  | inr other ↦ rw other (ap (λ (ss : List Stored). cond (not (has same_name gone s.table.name)) (s ∷ ss) ss) (left_alike gone name rows leaves all))
]

pub rows_leave_unread : RowsLeaveUnread
rows_leave_unread db name rows gone new leaves =
    ap (λ (left : List Stored). record { number = db.number + 1; tables = in_order name_cmp name_of (new ++ left); indexes = filter (λ i. not (has same_name gone i.table)) db.indexes }) (left_alike gone name rows leaves db.tables)

-- nor the rows of several
pub aside_leaves_unread : (db : Database) (names gone : List (List ℕ)) (new : List Stored) → list_all (has same_name gone) names ≡ true → exchanged (set_aside names db) gone new ≡ exchanged db gone new
aside_leaves_unread db [] gone new all = ap (λ (db : Database). exchanged db gone new) (none_aside db)
aside_leaves_unread db (name ∷ names) gone new all =
    let parts = and_parts _ _ all in
    ap (λ (db : Database). exchanged db gone new) (sym (one_more_is_taken db names name))
    ∙ rows_leave_unread (set_aside names db) name [] gone new parts.0 ∙ aside_leaves_unread db names gone new parts.1

-- so an exchange that may be made may be made with rows aside
pub can_exchange_aside : (db : Database) (names gone : List (List ℕ)) (exchange : Prepared) → list_all (has same_name gone) names ≡ true → CanExchange db gone exchange → CanExchange (set_aside names db) gone exchange
can_exchange_aside db names gone exchange all may = record {
  new = may.new;
  prepared = subst (λ (catalog : Catalog). IsExchangeOf catalog gone may.new exchange) (sym (catalog_aside db names)) may.prepared;
  database = subst IsDatabase (sym (aside_leaves_unread db names gone (map stored may.new) all)) may.database;
  under_own_keys = may.under_own_keys;
}

-- ---- what is found by a name
module _ (names : List (List ℕ)) (name : List ℕ) where
  abbrev found : List Stored → Option Stored
  found all = find (λ (s : Stored). same_name s.table.name name) all

  abbrev table_found : Option Stored → Option Table
  table_found o = option_map (λ (s : Stored). s.table) o

  tables_found : (all : List Stored) → table_found (found (map (aside names) all)) ≡ table_found (found all)
  tables_found [] = refl
  tables_found (s ∷ all) =
      let rest = tables_found all in
      let alike : (t : Stored) → t.table ≡ s.table → table_found (cond (same_name s.table.name name) (Some t) (found (map (aside names) all))) ≡ table_found (cond (same_name s.table.name name) (Some s) (found all)) =
      λ t same. elim (same_name s.table.name name) as (λ b. table_found (cond b (Some t) (found (map (aside names) all))) ≡ table_found (cond b (Some s) (found all))) [ true ↦ ap Some same | false ↦ rest ] in
      elim (has same_name names s.table.name) as (λ b. table_found (found (cond b (bare s) s ∷ map (aside names) all)) ≡ table_found (found (s ∷ all))) [ true ↦ alike (bare s) refl | false ↦ alike s refl ]

  still_found : has same_name names name ≡ false → (all : List Stored) → found (map (aside names) all) ≡ found all
  still_found none [] = refl
  still_found none (s ∷ all) =
      let rest = still_found none all in
      elim (cases_Bool (same_name s.table.name name)) [
        | inl same ↦
            let here : has same_name names s.table.name ≡ false = ap (has same_name names) (is_one s.table.name name same) ∙ none in
            rw (here, same) refl
        | inr other ↦ elim (has same_name names s.table.name) as (λ b. found (cond b (bare s) s ∷ map (aside names) all) ≡ found (s ∷ all)) [ true ↦ rw other rest | false ↦ rw other rest ]
      ]

-- a table whose rows are not aside has them still
pub stored_aside : (db : Database) (names : List (List ℕ)) (name : List ℕ) → has same_name names name ≡ false → stored_at (set_aside names db) name ≡ stored_at db name
stored_aside db names name none = still_found names name none db.tables

-- ---- what the table of a name had is put back
module _ (db : Database) (name : List ℕ) (entries : List Entry) (had : option_map (λ (s : Stored). entries_of s.table s.rows) (stored_at db name) ≡ Some entries) where
  had_from : (o : Option Stored) → option_map (λ (s : Stored). entries_of s.table s.rows) o ≡ Some entries → map (λ e. e.1) entries ≡ unwrap_or (option_map (λ (s : Stored). s.rows) o) []
  had_from None is = absurd cc
  had_from (Some s) is = ap (map (λ (e : Entry). e.1)) (sym (same_Some (entries_of s.table s.rows) entries is)) ∙ rows_of_entries s.table s.rows
    where
      rows_of_entries : (table : Table) (rows : List (List Value)) → map (λ (e : Entry). e.1) (entries_of table rows) ≡ rows
      rows_of_entries table [] = refl
      rows_of_entries table (row ∷ rows) = ap (λ rows. row ∷ rows) (rows_of_entries table rows)

  pub rows_had : map (λ (e : Entry). e.1) entries ≡ table_rows db name
  rows_had = had_from (stored_at db name) had

  own_from : (o : Option Stored) → option_map (λ (s : Stored). entries_of s.table s.rows) o ≡ Some entries → (s : Stored) → option_map (λ (s : Stored). s.table) (Some s) ≡ option_map (λ (s : Stored). s.table) o
      → entries ≡ entries_of s.table (map (λ (e : Entry). e.1) entries)
  own_from None is s same = absurd cc
  own_from (Some t) is s same = sym (same_Some (entries_of t.table t.rows) entries is) ∙ ap₂ entries_of (sym (same_Some s.table t.table same)) (sym (had_from (Some t) is))

  -- they stand under the keys of the table, which is there still
  pub own_keys_had : (names : List (List ℕ)) (s : Stored) → stored_at (set_aside names db) name ≡ Some s → entries ≡ entries_of s.table (map (λ (e : Entry). e.1) entries)
  own_keys_had names s found = own_from (stored_at db name) had s (ap (option_map (λ (s : Stored). s.table)) (sym found) ∙ tables_found names name db.tables)

  module _ (names : List (List ℕ)) (is : IsDatabase db) (none : has same_name names name ≡ false) where
    pub put_back : with_rows (set_aside (name ∷ names) db) name (map (λ (e : Entry). e.1) entries) ≡ set_aside names db
    put_back = ap (with_rows (set_aside (name ∷ names) db) name) rows_had ∙ one_more_is_back db names name is none

    pub database_back : IsDatabase (with_rows (set_aside (name ∷ names) db) name (map (λ (e : Entry). e.1) entries))
    database_back = subst IsDatabase (sym put_back) (keeps_aside db names is)
