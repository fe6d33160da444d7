-- A catalog with given rows is a database, and is built up table by table and rule by rule.
use Rattle.std.proofs.Common.{◌≡◌, ℕ, ◌+◌, Bool, true, false, ◌&&◌, cond, if◌then◌else◌, List, [], ◌∷◌, ◌++◌, map, fold, Option, Some, None, option_map, unwrap_or, is_eq, refl, sym, ap, ap₂, ◌∙◌, append_assoc, Ordering, is_lt}
use Rattle.std.specs.Global.{Vec}
use Rattle.std.specs.BTreeMap.{BTreeMap}
use Rattle.std.specs.BTreeMap as tree
use Rattle.std.specs.List.{All, AllByRecursion, list_all, list_any}
use Rattle.std.specs.Ordering.{eq_by_cmp}
use Rattle.std.proofs.lemmas.Bool.{and_from, and_parts, not-true, or_parts}
use Rattle.std.proofs.lemmas.Grind.{fold-append}
use Rattle.std.proofs.lemmas.List.{append-nil, map-append}
use Rattle.std.proofs.lemmas.List.Folds.{list_all-map, list_any-append}
use Rattle.bf_base.specs.declared.table.Table.{Table}
use Rattle.bf_base.specs.declared.value.Value.{Value}
use Rattle.bf_base.specs.Lists.{has, in_order, name_cmp, rises, same_name}
use Rattle.bf_base.specs.Tables.{key_of, IsKeyWithin}
use Rattle.bf_base.specs.Values.{key_cmp, key_cmp_total}
use Rattle.bf_base.proofs.Apart.{are_apart, apart_from_rises, are_apart-same_items, in_order-rises, rises-placed_apart, with_placed-behind}
use Rattle.bf_base.proofs.Items.{between, mapped}
use Rattle.bf_base.proofs.Names.{name_cmp_total, same_name-tie, same_name-tie_back}
use Rattle.bf_base.proofs.Order.{list_all-with_placed}
use Rattle.bf_tree.specs.Catalogs.{Catalog}
use Rattle.bf_tree.specs.declared.catalog.IndexRule.{IndexRule}
use Rattle.bf_tree.specs.Limits.{HasNarrowTables, is_narrow}
use Rattle.bf_sql.specs.Bound.{catalog_of, table_without_rows, without_rows}
use Rattle.bf_sql.specs.Database.{Database, IsDatabase, Stored, empty_database, is_admitted, is_keyed, is_on_table, is_within, stored_in_order}
use Rattle.bf_sql.specs.Meaning.{next_number, with_index}
use Rattle.bf_live.specs.Meanings.{entries_of}
use Rattle.bf_live.proofs.querying.OwnKeys.{each}
use Rattle.bf_live.proofs.querying.RowsAsEntries.{rows_are}
use Rattle.bf_live.specs.Live.{IsUnderOwnKeys, TableRows, exchanged, stored}
use Rattle.bf_live.proofs.keeps.Items.{list_all_if, list_any_alike}
use Rattle.bf_eager.specs.Given.{given_under}
use Rattle.bf_eager.specs.Starting.{CanStart, NamedTable, database_with, entries_in_order, have_different_keys, named_tables, rows_named, tables_with}
use Rattle.bf_eager.proofs.Placing.{all_within, different-apart}

-- ---- rows by names
abbrev Given : Type 0
Given = List ℕ × Vec (List Value)

named_more : (given : List Given) (g : Given) (name : List ℕ) → rows_named (named_tables (given ++ g ∷ [])) name ≡ (if same_name g.0 name then g.1.items else rows_named (named_tables given) name)
named_more given g name =
    let step : List (List Value) → NamedTable → List (List Value) = λ rows g. if same_name g.0 name then g.1 else rows in
    ap (fold step []) (map-append (λ (g : Given). (g.0, g.1.items)) given (g ∷ [])) ∙ fold-append step [] (named_tables given) ((g.0, g.1.items) ∷ [])

-- one more takes the place of those before under its name
pub given_more : (given : List Given) (g : Given) (old new : BTreeMap (List ℕ) (Vec (List Value))) → ((name : List ℕ) → given_under old name ≡ rows_named (named_tables given) name)
    → ((name : List ℕ) → tree.get name_cmp new name ≡ cond (is_eq (name_cmp g.0 name)) (Some g.1) (tree.get name_cmp old name))
    → (name : List ℕ) → given_under new name ≡ rows_named (named_tables (given ++ g ∷ [])) name
given_more given g old new under updated name =
    ap (λ (o : Option (Vec (List Value))). unwrap_or (option_map (λ own. own.items) o) []) (updated name ∙ ap (λ b. cond b (Some g.1) (tree.get name_cmp old name)) (sym (same_name-tie g.0 name)))
    ∙ (either (same_name g.0 name)
    ∙ (ap (λ (rows : List (List Value)). if same_name g.0 name then g.1.items else rows) (under name) ∙ sym (named_more given g name)))
  where
    either : (b : Bool) → unwrap_or (option_map (λ (own : Vec (List Value)). own.items) (cond b (Some g.1) (tree.get name_cmp old name))) [] ≡ (if b then g.1.items else given_under old name)
    either true = refl
    either false = refl

-- rows that are taken out, or none
pub taken_out : (o : Option (Vec (List Value))) (none : Vec (List Value)) → none.items ≡ [] → (unwrap_or o none).items ≡ unwrap_or (option_map (λ (own : Vec (List Value)). own.items) o) []
taken_out None none empty = empty
taken_out (Some own) none empty = refl

-- ---- the tables of a catalog
abbrev pub called : Table → List ℕ
called t = t.name

pub list_all_midst : {X : Type 0} (p : X → Bool) (xs ys : List X) (x : X) → list_all p (xs ++ x ∷ ys) ≡ true → p x ≡ true
list_all_midst p [] ys x all = (and_parts (p x) (list_all p ys) all).0
list_all_midst p (z ∷ xs) ys x all = list_all_midst p xs ys x (and_parts (p z) (list_all p (xs ++ x ∷ ys)) all).1

abbrev same_named : List ℕ → List ℕ → Bool
same_named = eq_by_cmp name_cmp

-- a table of a catalog has another name than those before it
pub named_anew : (before rest : List Table) (t : Table) → rises name_cmp (map called (before ++ t ∷ rest)) ≡ true → has same_name (map called before) t.name ≡ false
named_anew before rest t rise =
    let apart : are_apart same_named (map called (t ∷ (before ++ rest))) ≡ true =
    are_apart-same_items name_cmp_total (mapped called (between t before rest)) ∙ apart_from_rises name_cmp_total (map called (before ++ t ∷ rest)) rise in
    let none : has same_named (map called before ++ map called rest) t.name ≡ false =
    ap (λ (ks : List (List ℕ)). has same_named ks t.name) (sym (map-append called before rest)) ∙ not-true _ (and_parts _ _ apart).0 in
    let here : has same_named (map called before) t.name ≡ false = (or_parts _ _ (sym (list_any-append (same_named t.name) (map called before) (map called rest)) ∙ none)).0 in
    (λ i. list_any (λ (name : List ℕ). same_name-tie t.name name i) (map called before)) ∙ here

-- what is under the names of the tables behind stays
pub stays_under : (before : List Table) (t : Table) (given : List NamedTable) (old new : BTreeMap (List ℕ) (Vec (List Value)))
    → ((name : List ℕ) → has same_name (map called before) name ≡ false → given_under old name ≡ rows_named given name)
    → ((name : List ℕ) → is_eq (name_cmp t.name name) ≡ false → tree.get name_cmp new name ≡ tree.get name_cmp old name)
    → (name : List ℕ) → has same_name (map called (before ++ t ∷ [])) name ≡ false → given_under new name ≡ rows_named given name
stays_under before t given old new under kept name none =
    let parts = or_parts _ _ (sym (list_any-append (same_name name) (map called before) (t.name ∷ [])) ∙ (ap (list_any (same_name name)) (sym (map-append called before (t ∷ []))) ∙ none)) in
    let other : same_name name t.name ≡ false = (or_parts _ _ parts.1).0 in
    ap (λ (o : Option (Vec (List Value))). unwrap_or (option_map (λ own. own.items) o) []) (kept name (sym (same_name-tie_back name t.name) ∙ other))
    ∙ under name parts.0

-- tables with the rows that are given under their names
abbrev pub with_own : List NamedTable → List Table → List TableRows
with_own given tables = map (λ (t : Table). (t, entries_in_order t (rows_named given t.name))) tables

rises_front : {K : Type 0} (cmp : K → K → Ordering) (xs ys : List K) → rises cmp (xs ++ ys) ≡ true → rises cmp xs ≡ true
rises_front cmp [] ys h = refl
rises_front cmp (x ∷ []) ys h = refl
rises_front cmp (x ∷ y ∷ xs) ys h = let parts = and_parts (is_lt (cmp x y)) (rises cmp ((y ∷ xs) ++ ys)) h in and_from _ _ parts.0 (rises_front cmp (y ∷ xs) ys parts.1)

all_front : {X : Type 0} (p : X → Bool) (xs ys : List X) → list_all p (xs ++ ys) ≡ true → list_all p xs ≡ true
all_front p [] ys all = refl
all_front p (x ∷ xs) ys all = let parts = and_parts (p x) (list_all p (xs ++ ys)) all in and_from _ _ parts.0 (all_front p xs ys parts.1)

abbrev name_of_rule : IndexRule → List ℕ
name_of_rule i = i.name

module _ (catalog : Catalog) (given : List NamedTable) (can : CanStart catalog given) where
  abbrev own : Table → List (List Value)
  own t = rows_named given t.name

  -- the rows of a table can be put under their keys
  module _ (before rest : List Table) (t : Table) (whole : before ++ t ∷ rest ≡ catalog.tables) where
    own_different : have_different_keys t (own t) ≡ true
    own_different = list_all_midst (λ (t : Table). have_different_keys t (own t)) before rest t (ap (list_all (λ (t : Table). have_different_keys t (own t))) whole ∙ can.keys)

    own_admitted : list_all (is_admitted t) (own t) ≡ true
    own_admitted = list_all_midst (λ (t : Table). list_all (is_admitted t) (own t)) before rest t (ap (list_all (λ (t : Table). list_all (is_admitted t) (own t))) whole ∙ can.admitted)

    key_is_within : is_within t t.key ≡ true
    key_is_within =
        list_all_midst (λ (t : Table). is_within t t.key) before rest t
        (ap (list_all (λ (t : Table). is_within t t.key)) whole ∙ (sym (list_all-map (λ (s : Stored). is_within s.table s.table.key) table_without_rows catalog.tables) ∙ can.tables.keys_within))

    pub keys_are_within : (rows : List (List Value)) → rows ≡ own t → AllByRecursion (IsKeyWithin t) rows
    keys_are_within rows is = all_within t key_is_within rows (ap (list_all (is_admitted t)) is ∙ own_admitted)

    pub keys_are_different : (rows : List (List Value)) → rows ≡ own t → have_different_keys t rows ≡ true
    keys_are_different rows is = ap (have_different_keys t) is ∙ own_different

    pub named_apart : has same_name (map called before) t.name ≡ false
    named_apart = named_anew before rest t (ap (λ (ts : List Table). rises name_cmp (map called ts)) whole ∙ names_rise)
      where
        names : (ts : List Table) → map called ts ≡ map (λ (s : Stored). s.table.name) (map table_without_rows ts)
        names [] = refl
        names (t ∷ ts) = ap (λ (ns : List (List ℕ)). t.name ∷ ns) (names ts)

        names_rise : rises name_cmp (map called catalog.tables) ≡ true
        names_rise = ap (rises name_cmp) (names catalog.tables) ∙ can.tables.tables_by_name

  abbrev start : Database
  start = database_with catalog given

  stored_own : (ts : List Table) → map stored (with_own given ts) ≡ map (λ (t : Table). stored_in_order t (own t)) ts
  stored_own [] = refl
  stored_own (t ∷ ts) =
      ap₂ (λ (rows : List (List Value)) (ss : List Stored). (let s : Stored = record { table = t; rows = rows } in s) ∷ ss) (rows_are t (in_order key_cmp (key_of t) (own t))) (stored_own ts)

  -- the heaps hold the tables of the database
  pub stored_are : map stored (with_own given catalog.tables) ≡ start.tables
  stored_are = stored_own catalog.tables

  under_own : (ts : List Table) → AllByRecursion IsUnderOwnKeys (with_own given ts)
  under_own [] = tt
  under_own (t ∷ ts) = (ap (entries_of t) (sym (rows_are t (in_order key_cmp (key_of t) (own t)))), under_own ts)

  pub are_under_own_keys : All IsUnderOwnKeys (with_own given catalog.tables)
  are_under_own_keys = each IsUnderOwnKeys (with_own given catalog.tables) (under_own catalog.tables)

  -- its tables are those of the catalog
  start_tables : (ts : List Table) → map (λ (s : Stored). s.table) (map (λ (t : Table). stored_in_order t (own t)) ts) ≡ map (λ (s : Stored). s.table) (map table_without_rows ts)
  start_tables [] = refl
  start_tables (t ∷ ts) = ap (λ (us : List Table). t ∷ us) (start_tables ts)

  bare_tables : (ts : List Table) → map (λ (s : Stored). s.table) (map table_without_rows ts) ≡ ts
  bare_tables [] = refl
  bare_tables (t ∷ ts) = ap (λ (us : List Table). t ∷ us) (bare_tables ts)

  pub start_narrow : HasNarrowTables (catalog_of start)
  start_narrow = ap (list_all is_narrow) (start_tables catalog.tables ∙ bare_tables catalog.tables) ∙ can.narrow

  start_names : (ts : List Table) → map (λ (s : Stored). s.table.name) (map (λ (t : Table). stored_in_order t (own t)) ts) ≡ map (λ (s : Stored). s.table.name) (map table_without_rows ts)
  start_names [] = refl
  start_names (t ∷ ts) = ap (λ (ns : List (List ℕ)). t.name ∷ ns) (start_names ts)

  keyed : (ts : List Table) → list_all (λ (t : Table). have_different_keys t (own t)) ts ≡ true → list_all is_keyed (map (λ (t : Table). stored_in_order t (own t)) ts) ≡ true
  keyed [] all = refl
  keyed (t ∷ ts) all =
      let parts = and_parts (have_different_keys t (own t)) (list_all (λ (t : Table). have_different_keys t (own t)) ts) all in
      and_from _ _ (rises-placed_apart key_cmp_total (key_of t) [] (own t) refl (sym (different-apart t (own t)) ∙ parts.0)) (keyed ts parts.1)

  admitted_all : (ts : List Table) → list_all (λ (t : Table). list_all (is_admitted t) (own t)) ts ≡ true
      → list_all (λ (s : Stored). list_all (is_admitted s.table) s.rows) (map (λ (t : Table). stored_in_order t (own t)) ts) ≡ true
  admitted_all [] all = refl
  admitted_all (t ∷ ts) all =
      let parts = and_parts (list_all (is_admitted t) (own t)) (list_all (λ (t : Table). list_all (is_admitted t) (own t)) ts) all in
      and_from _ _ (list_all-with_placed key_cmp_total (key_of t) (is_admitted t) [] (own t) ∙ parts.0) (admitted_all ts parts.1)

  still_on_table : (index : IndexRule) → is_on_table (without_rows catalog) index ≡ is_on_table start index
  still_on_table index =
      list_any_alike (λ (s : Stored). s.table) (λ (t : Table). same_name t.name index.table && is_within t index.columns) (without_rows catalog).tables start.tables (sym (start_tables catalog.tables))

  -- with the first index rules it is a database
  pub is_built : (number : ℕ) (rules rest : List IndexRule) → rules ++ rest ≡ catalog.indexes → IsDatabase (record start { number = number; indexes = rules })
  is_built number rules rest whole = record {
    tables_by_name = ap (rises name_cmp) (start_names catalog.tables) ∙ can.tables.tables_by_name;
    indexes_by_name = rises_front name_cmp (map name_of_rule rules) (map name_of_rule rest) (ap (rises name_cmp) (sym (map-append name_of_rule rules rest) ∙ ap (map name_of_rule) whole) ∙ can.tables.indexes_by_name);
    rows_by_key = keyed catalog.tables can.keys;
    rows_admitted = admitted_all catalog.tables can.admitted;
    keys_within =
        sym (list_all-map (λ (t : Table). is_within t t.key) (λ (s : Stored). s.table) start.tables)
        ∙ (ap (list_all (λ (t : Table). is_within t t.key)) (start_tables catalog.tables)
        ∙ (list_all-map (λ (t : Table). is_within t t.key) (λ (s : Stored). s.table) (without_rows catalog).tables ∙ can.tables.keys_within));
    indexes_on_tables = all_front (is_on_table start) rules rest (ap (list_all (is_on_table start)) whole
        ∙ list_all_if (is_on_table (without_rows catalog)) (is_on_table start) (λ index on. sym (still_on_table index) ∙ on) catalog.indexes can.tables.indexes_on_tables);
  }

  pub start_is_database : IsDatabase start
  start_is_database = is_built catalog.number catalog.indexes [] (append-nil catalog.indexes)

  -- the tables alone
  pub tables_alone : exchanged empty_database [] (map stored (with_own given catalog.tables)) ≡ record start { number = 1; indexes = [] }
  tables_alone =
      let built = is_built 1 [] catalog.indexes refl in
      ap (λ (ts : List Stored). let db : Database = record { number = 1; tables = ts; indexes = [] } in db)
      (ap (λ (ss : List Stored). in_order name_cmp (λ (s : Stored). s.table.name) (ss ++ [])) stored_are
      ∙ (ap (in_order name_cmp (λ (s : Stored). s.table.name)) (append-nil start.tables) ∙ in_order-rises name_cmp_total (λ (s : Stored). s.table.name) start.tables built.tables_by_name))

  -- and one index rule more
  pub rule_added : (number : ℕ) (rules rest : List IndexRule) (index : IndexRule) → rules ++ index ∷ rest ≡ catalog.indexes
      → next_number (with_index index (record start { number = number; indexes = rules })) ≡ record start { number = number + 1; indexes = rules ++ index ∷ [] }
  rule_added number rules rest index whole =
      let built = is_built (number + 1) (rules ++ index ∷ []) rest (append_assoc rules (index ∷ []) rest ∙ whole) in
      ap (λ (is : List IndexRule). let db : Database = record start { number = number + 1; indexes = is } in db)
      (with_placed-behind name_cmp_total name_of_rule rules (index ∷ []) built.indexes_by_name)

  -- so they are built up
  pub numbered : (db : Database) (number : ℕ) (rules : List IndexRule) → db ≡ record start { number = number; indexes = rules } → db ≡ record start { number = db.number; indexes = rules }
  numbered db number rules is = is ∙ ap (λ (n : ℕ). let db : Database = record start { number = n; indexes = rules } in db) (sym (ap (λ (db : Database). db.number) is))

  pub begun_as : (db : Database) (held : List TableRows) → db ≡ empty_database → held ≡ tables_with catalog given → exchanged db [] (map stored held) ≡ record start { number = 1; indexes = [] }
  begun_as db held empty are = ap₂ (λ (db : Database) (held : List TableRows). exchanged db [] (map stored held)) empty are ∙ tables_alone

  pub next_rule : (db : Database) (rules rest : List IndexRule) (index copy : IndexRule) → db ≡ record start { number = db.number; indexes = rules } → copy ≡ index → rules ++ index ∷ rest ≡ catalog.indexes
      → next_number (with_index copy db) ≡ record start { number = db.number + 1; indexes = rules ++ index ∷ [] }
  next_rule db rules rest index copy is copied whole =
      ap₂ (λ (i : IndexRule) (db : Database). next_number (with_index i db)) copied is ∙ rule_added db.number rules rest index whole
