-- The live tables after a schema change in which tables leave and others come.
use Rattle.std.proofs.Common.{◌≡◌, ℕ, ◌+◌, Bool, true, false, not, cond, List, [], ◌∷◌, ◌++◌, map, filter, fold, refl, sym, ap, ap₂, subst, ◌∙◌, arith, suc}
use Rattle.std.specs.List.{All, list_all}
use Rattle.std.specs.Map.{keys_of}
use Rattle.std.specs.Ordering.{eq_by_cmp}
use Rattle.std.proofs.lemmas.Bool.{and_parts, not-true, or_parts}
use Rattle.std.proofs.lemmas.List.{map-append}
use Rattle.std.proofs.lemmas.List.Elements.{All-append, All-filter}
use Rattle.std.proofs.lemmas.Simd.{map-map}
use Rattle.bf_base.specs.Lists.{has, in_order, name_cmp, placed, rises, same_name}
use Rattle.bf_base.proofs.Apart.{apart_across, apart_from_rises, apart_right, are_apart, are_apart-same_items, map-with_placed, with_placed-items}
use Rattle.bf_base.proofs.Items.{mapped}
use Rattle.bf_base.proofs.Names.{name_cmp_total, same_name-tie, same_name-tie_back}
use Rattle.bf_heap.specs.Heaps.{Entry}
use Rattle.bf_tree.specs.Catalogs.{Catalog}
use Rattle.bf_tree.specs.declared.catalog.IndexRule.{IndexRule}
use Rattle.bf_sql.specs.Bound.{catalog_of}
use Rattle.bf_sql.specs.Database.{Database, IsDatabase, Stored}
use Rattle.bf_live.specs.Drafts.{AreNamedApart, Drafted, IsExchangeOf, Prepared, name_of_rows, rows_over, staying, staying_rows, staying_rules, tables_after, with_more, with_rows_of}
use Rattle.bf_live.specs.Live.{AreLiveTables, IsUnderOwnKeys, NamedRows, TableRows, database_of, exchanged, stored}
use Rattle.bf_live.proofs.Drafts.{without_rows}
use Rattle.bf_live.proofs.Heaps.{is_same}
use Rattle.bf_live.proofs.Held.{catalog_held, name_of}
use Rattle.bf_live.proofs.Paired.{all_placed, named, one_each_again, paired, paired_again, rows_paired, table_of, tables_paired}

filter_mapped : {X Y : Type 0} (f : X → Y) (test : Y → Bool) (xs : List X) → filter test (map f xs) ≡ map f (filter (λ x. test (f x)) xs)
filter_mapped f test [] = refl
filter_mapped f test (x ∷ xs) = elim (test (f x)) as (λ b. cond b (f x ∷ filter test (map f xs)) (filter test (map f xs)) ≡ map f (cond b (x ∷ filter (λ x. test (f x)) xs) (filter (λ x. test (f x)) xs))) [
  | true ↦ ap (λ ys. f x ∷ ys) (filter_mapped f test xs)
  | false ↦ filter_mapped f test xs
]

-- ---- rows that are put back into their tables
abbrev emptied : TableRows → TableRows
emptied t = (t.0, [])

abbrev is_named : List TableRows → List ℕ → Bool
is_named tables name = has (eq_by_cmp name_cmp) (map name_of_rows tables) name

names_emptied : (tables : List TableRows) → map name_of_rows (map emptied tables) ≡ map name_of_rows tables
names_emptied tables = map-map name_of_rows emptied tables

-- none of the rows are those of a table of another name
others_rows : (tables : List TableRows) (name : List ℕ) (rows : List Entry) → is_named tables name ≡ false → fold (rows_over name) rows (map named tables) ≡ rows
others_rows [] name rows none = refl
others_rows (t ∷ ts) name rows none =
    let parts = or_parts _ _ none in
    let other : same_name t.0.name name ≡ false = same_name-tie_back t.0.name name ∙ parts.0 in
    ap (λ b. fold (rows_over name) (cond b t.1 rows) (map named ts)) other ∙ others_rows ts name rows parts.1

untouched : (tables others : List TableRows) → list_all (λ name. not (is_named tables name)) (map name_of_rows others) ≡ true → with_rows_of (map named tables) others ≡ others
untouched tables [] none = refl
untouched tables (t ∷ ts) none =
    let parts = and_parts _ _ none in
    ap₂ (λ es (ts : List TableRows). (t.0, es) ∷ ts) (others_rows tables t.0.name t.1 (not-true _ parts.0)) (untouched tables ts parts.1)

-- rows under a name that no table has
no_place : (r : NamedRows) (rows : List NamedRows) (tables : List TableRows) → is_named tables r.0 ≡ false → with_rows_of (r ∷ rows) tables ≡ with_rows_of rows tables
no_place r rows [] none = refl
no_place r rows (t ∷ ts) none =
    let parts = or_parts _ _ none in
    let other : same_name r.0 t.0.name ≡ false = same_name-tie r.0 t.0.name ∙ parts.0 in
    ap₂ (λ es (ts : List TableRows). (t.0, es) ∷ ts) (ap (λ b. fold (rows_over t.0.name) (cond b r.1 t.1) rows) other) (no_place r rows ts parts.1)

-- each table has its own rows again
filled : (tables : List TableRows) → are_apart (eq_by_cmp name_cmp) (map name_of_rows tables) ≡ true → with_rows_of (map named tables) (map emptied tables) ≡ tables
filled [] apart = refl
filled (t ∷ ts) apart =
    let parts = and_parts _ _ apart in
    let none : is_named ts t.0.name ≡ false = not-true _ parts.0 in
    let here : fold (rows_over t.0.name) (rows_over t.0.name [] (named t)) (map named ts) ≡ t.1 =
    ap (λ b. fold (rows_over t.0.name) (cond b t.1 []) (map named ts)) (is_same t.0.name t.0.name refl) ∙ others_rows ts t.0.name t.1 none in
    ap₂ (λ es (ts : List TableRows). (t.0, es) ∷ ts) here
    (no_place (named t) (map named ts) (map emptied ts) (ap (λ ns. has (eq_by_cmp name_cmp) ns t.0.name) (names_emptied ts) ∙ none) ∙ filled ts parts.1)

-- ---- what a test leaves of tables with their rows
module _ (gone : List (List ℕ)) where
  abbrev stays : List ℕ → Bool
  stays name = not (has same_name gone name)

  abbrev pub kept : List TableRows → List TableRows
  kept tables = filter (λ t. stays t.0.name) tables

  staying_kept : (tables : List TableRows) → staying gone (map table_of tables) ≡ map emptied (kept tables)
  staying_kept tables = ap (map without_rows) (filter_mapped table_of (λ t. stays t.name) tables) ∙ map-map without_rows table_of (kept tables)

  rows_kept : (tables : List TableRows) → staying_rows gone (map named tables) ≡ map named (kept tables)
  rows_kept tables = filter_mapped named (λ r. stays r.0) tables

  stored_kept : (tables : List TableRows) → filter (λ s. stays s.table.name) (map stored tables) ≡ map stored (kept tables)
  stored_kept tables = filter_mapped stored (λ s. stays s.table.name) tables

-- ---- in the order of the names
stored_placed : (tables : List TableRows) → map stored (with_more [] tables) ≡ in_order name_cmp name_of (map stored tables)
stored_placed tables = map-with_placed name_cmp_total name_of_rows name_of stored (λ t. refl) [] tables

names_placed : (tables : List TableRows) → map name_of_rows (with_more [] tables) ≡ in_order name_cmp (λ n. n) (map name_of_rows tables)
names_placed tables = map-with_placed name_cmp_total name_of_rows (λ n. n) name_of_rows (λ t. refl) [] tables

rows_placed_alike : (rows : List NamedRows) (tables : List TableRows) → with_rows_of rows (with_more [] tables) ≡ with_more [] (with_rows_of rows tables)
rows_placed_alike rows tables = map-with_placed name_cmp_total name_of_rows name_of_rows (λ (t : TableRows). (t.0, fold (rows_over t.0.name) t.1 rows)) (λ t. refl) [] tables

-- the names of the tables after an exchange, with their rows and without
names_after : (db : Database) (gone : List (List ℕ)) (new : List TableRows) → map name_of_rows (tables_after (catalog_of db) gone new) ≡ map name_of (exchanged db gone (map stored new)).tables
names_after db gone new =
    let left : List Stored = filter (λ s. stays gone s.table.name) db.tables in
    let there : staying gone (catalog_of db).tables ≡ map (λ s. (s.table, [])) left = ap (map without_rows) (filter_mapped (λ (s : Stored). s.table) (λ t. stays gone t.name) db.tables) ∙ map-map without_rows (λ (s : Stored). s.table) left in
    let names : map name_of_rows (new ++ staying gone (catalog_of db).tables) ≡ map name_of (map stored new ++ left) =
    ap (λ (ts : List TableRows). map name_of_rows (new ++ ts)) there ∙ map-append name_of_rows new (map (λ s. (s.table, [])) left)
    ∙ ap₂ (λ (ns ms : List (List ℕ)). ns ++ ms) (sym (map-map name_of stored new)) (map-map name_of_rows (λ (s : Stored). (s.table, [])) left)
    ∙ sym (map-append name_of (map stored new) left) in
    names_placed (new ++ staying gone (catalog_of db).tables) ∙ ap (in_order name_cmp (λ n. n)) names
    ∙ sym (map-with_placed name_cmp_total name_of (λ n. n) name_of (λ s. refl) [] (map stored new ++ left))

-- they are apart where the exchange leaves a database
pub names_apart : (db : Database) (gone : List (List ℕ)) (new : List TableRows) → IsDatabase (exchanged db gone (map stored new)) → AreNamedApart (tables_after (catalog_of db) gone new)
names_apart db gone new database = ap (rises name_cmp) (names_after db gone new) ∙ database.tables_by_name

module _ (P : TableRows → Type 0) where
  all_more : (tables more : List TableRows) → All P tables → All P more → All P (with_more tables more)
  all_more tables [] all others = all
  all_more tables (t ∷ ts) all others = all_more (placed name_cmp name_of_rows tables t) ts (all_placed P t tables (others 0 t (omega arith)) all) (λ k d below. others (suc k) d (omega arith))

-- ---- the tables that stay, and the new ones
-- the rows are put in their places
rows_filled : (new stay : List TableRows) → AreNamedApart (with_more [] (new ++ stay)) → with_rows_of (map named stay) (with_more [] (new ++ map emptied stay)) ≡ with_more [] (new ++ stay)
rows_filled new stay apart =
    let all : are_apart (eq_by_cmp name_cmp) (map name_of_rows new ++ map name_of_rows stay) ≡ true =
    ap (are_apart (eq_by_cmp name_cmp)) (sym (map-append name_of_rows new stay))
    ∙ are_apart-same_items name_cmp_total (mapped name_of_rows (with_placed-items name_cmp_total name_of_rows [] (new ++ stay)))
    ∙ apart_from_rises name_cmp_total (map name_of_rows (with_more [] (new ++ stay))) apart in
    let across = apart_across (eq_by_cmp name_cmp) (map name_of_rows new) (map name_of_rows stay) all in
    let own = apart_right (eq_by_cmp name_cmp) (map name_of_rows new) (map name_of_rows stay) all in
    rows_placed_alike (map named stay) (new ++ map emptied stay)
    ∙ ap (with_more []) (map-append (λ (t : TableRows). (t.0, fold (rows_over t.0.name) t.1 (map named stay))) new (map emptied stay) ∙ ap₂ (λ (ts us : List TableRows). ts ++ us) (untouched stay new across) (filled stay own))

module _ (catalog : Catalog) (rows : List NamedRows) (live : AreLiveTables catalog rows) (db : Database) (is : database_of catalog rows ≡ db) (gone : List (List ℕ)) (new : List TableRows) where
  abbrev before : List TableRows
  before = paired catalog.tables rows

  abbrev after : List TableRows
  after = with_more [] (new ++ kept gone before)

  stored_after : map stored after ≡ (exchanged db gone (map stored new)).tables
  stored_after =
      stored_placed (new ++ kept gone before)
      ∙ ap (in_order name_cmp name_of) (map-append stored new (kept gone before) ∙ ap (λ (ss : List Stored). map stored new ++ ss) (sym (stored_kept gone before)))
      ∙ ap (λ (db : Database). (exchanged db gone (map stored new)).tables) is

  named_apart : AreNamedApart (tables_after (catalog_of db) gone new) → AreNamedApart after
  named_apart apart = ap (rises name_cmp) (sym (map-map name_of stored after) ∙ ap (map name_of) stored_after ∙ sym (names_after db gone new)) ∙ apart

  ends_after : AreNamedApart (tables_after (catalog_of db) gone new) → with_rows_of (staying_rows gone rows) (tables_after catalog gone new) ≡ after
  ends_after apart =
      let their_tables : staying gone catalog.tables ≡ map emptied (kept gone before) = ap (staying gone) (sym (tables_paired catalog.tables rows live.one_each)) ∙ staying_kept gone before in
      let their_rows : staying_rows gone rows ≡ map named (kept gone before) = ap (staying_rows gone) (sym (rows_paired catalog.tables rows live.one_each)) ∙ rows_kept gone before in
      ap₂ (λ (rs : List NamedRows) (ts : List TableRows). with_rows_of rs (with_more [] (new ++ ts))) their_rows their_tables ∙ rows_filled new (kept gone before) (named_apart apart)

  -- the catalog and the heaps of an exchange whose draft has the rows in their places
  module _ (exchange : Prepared) (kept_rows : List NamedRows) (put : Drafted) (next : Catalog) (rows' : List NamedRows) where
    pub record IsDone : Type 0 where
      pub prepared : IsExchangeOf (catalog_of db) gone new exchange
      pub apart : AreNamedApart (tables_after (catalog_of db) gone new)
      pub kept : kept_rows ≡ rows
      pub filled : put ≡ record exchange.drafted { tables = with_rows_of (staying_rows gone kept_rows) exchange.drafted.tables }
      pub number : next.number ≡ exchange.number
      pub tables : next.tables ≡ map table_of put.tables
      pub rules : next.indexes ≡ put.indexes
      pub rows_are : rows' ≡ map named put.tables

    module _ (done : IsDone) where
      tables_put : put.tables ≡ after
      tables_put =
          let drafted : exchange.drafted.tables ≡ tables_after catalog gone new = done.prepared.tables ∙ ap (λ (catalog : Catalog). tables_after catalog gone new) (sym (catalog_held catalog rows live db is)) in
          ap (λ (d : Drafted). d.tables) done.filled ∙ ap₂ (λ rs (ts : List TableRows). with_rows_of (staying_rows gone rs) ts) done.kept drafted ∙ ends_after done.apart

      pairs : paired next.tables rows' ≡ after
      pairs = ap₂ paired done.tables done.rows_are ∙ paired_again put.tables ∙ tables_put

      pub view_exchanged : database_of next rows' ≡ exchanged db gone (map stored new)
      view_exchanged =
          let parts : (n : ℕ) (ts : List Stored) (rs : List IndexRule) → Database = λ n ts rs. record { number = n; tables = ts; indexes = rs } in
          let rules : next.indexes ≡ staying_rules gone db.indexes = done.rules ∙ ap (λ (d : Drafted). d.indexes) done.filled ∙ done.prepared.indexes in
          ap (λ n. parts n (map stored (paired next.tables rows')) next.indexes) (done.number ∙ done.prepared.number)
          ∙ ap₂ (parts (db.number + 1)) (ap (map stored) pairs ∙ stored_after) rules

      pub store_exchanged : IsDatabase (exchanged db gone (map stored new)) → All IsUnderOwnKeys new → AreLiveTables next rows'
      store_exchanged database own = record {
        one_each = ap keys_of done.rows_are ∙ one_each_again put.tables ∙ ap (map (λ t. t.name)) (sym done.tables);
        under_own_keys = subst (All IsUnderOwnKeys) (sym pairs)
            (all_more IsUnderOwnKeys [] (new ++ kept gone before) (λ k d below. absurd (omega arith))
            (All-append IsUnderOwnKeys new (kept gone before) own (All-filter (λ t. not (has same_name gone t.0.name)) IsUnderOwnKeys before live.under_own_keys)));
        database = subst IsDatabase (sym view_exchanged) database;
      }

-- what was built up for an exchange that leaves a database has its names apart
pub prepared_apart : (db : Database) (gone : List (List ℕ)) (new other : List TableRows) (exchange : Prepared) → IsDatabase (exchanged db gone (map stored new)) → IsExchangeOf (catalog_of db) gone new exchange → IsExchangeOf (catalog_of db) gone other exchange
    → AreNamedApart (tables_after (catalog_of db) gone other)
prepared_apart db gone new other exchange database is is' = ap (λ (ts : List TableRows). rises name_cmp (map name_of_rows ts)) (sym is'.tables ∙ is.tables) ∙ names_apart db gone new database
