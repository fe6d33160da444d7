-- A record of a commit leaves out removals of keys that have no row: committing what it tells is committing all.
use Rattle.std.proofs.Common.{◌≡◌, ℕ, Bool, true, false, ◌||◌, ◌&&◌, cond, List, [], ◌∷◌, ◌++◌, map, filter, fold, Option, Some, None, option_map, unwrap_or, is_some, refl, sym, ap, ap₂, subst, ◌∙◌, inl, inr, is_eq}
use Rattle.std.specs.List.{AllByRecursion, list_all, list_any}
use Rattle.std.proofs.lemmas.Bool.{and_from, and_parts, false≢true, not-true, cases_Bool}
use Rattle.std.proofs.lemmas.List.{map-append}
use Rattle.std.proofs.lemmas.List.Elements.{All-filter}
use Rattle.std.proofs.lemmas.List.Folds.{list_any-append}
use Rattle.bf_base.specs.declared.table.Table.{Table}
use Rattle.bf_base.specs.declared.value.Value.{Value}
use Rattle.bf_base.specs.Lists.{has, rises, same_key, same_name}
use Rattle.bf_base.specs.Maps.{entry_at}
use Rattle.bf_base.specs.Tables.{key_of}
use Rattle.bf_base.specs.Values.{key_cmp, key_cmp_total}
use Rattle.bf_base.proofs.Apart.{rises-filter}
use Rattle.bf_base.proofs.Maps.{without_key-none}
use Rattle.bf_base.proofs.Order.{has-with_placed, less_from_test, rises_skip, rises_tail, symmetric}
use Rattle.bf_base.proofs.Parts.{filter-filter, filter_none, map_each}
use Rattle.bf_heap.specs.Heaps.{Entry, has_row, key_of_entry, row_under}
use Rattle.bf_txn.specs.declared.write.Write.{Write}
use Rattle.bf_txn.specs.Writes.{KeyWrite, table_key_of, writes_in, writes_to}
use Rattle.bf_txn.proofs.Tables.{table_key_cmp_total}
use Rattle.bf_sql.specs.Database.{Database, IsDatabase, Stored, stored_at, table_at, table_rows}
use Rattle.bf_sql.specs.migrations.Lazy.{LazyState, due, seen, view_of}
use Rattle.bf_live.specs.Meanings.{entries_of}
use Rattle.bf_live.specs.Merged.{WritesOwnKey, applied, changed_by}
use Rattle.bf_live.proofs.querying.Keyed.{by_key, row_under-applied}
use Rattle.bf_live.proofs.querying.Merging.{rows_of, write_keys}
use Rattle.bf_index.proofs.Rising.{RisesFrom}
use Rattle.bf_live.proofs.querying.OwnKeys.{by_recursion, each, filtered}
use Rattle.bf_image.proofs.items.Names.{name-equal}
use Rattle.bf_live.specs.Live.{committed, written_to}
use Rattle.bf_live.proofs.statements.Named.{IsThere, all_there}
use Rattle.bf_live.proofs.statements.Seeing.{Stands, nothing_written}
use Rattle.bf_store.specs.Calls.{IsLegalCommit, is_told, stands_in, tells, told_of}
use Rattle.bf_store.specs.States.{AreFree, IsLazy, IsOpenLazily, is_free}
use Rattle.bf_store.specs.Told.{is_told_in}
use Rattle.bf_store.proofs.coming.Found.{each_at_table, passes_if_found}
use Rattle.bf_store.proofs.seeing.Committing.{commit_is_seen, weakened}
use Rattle.bf_store.proofs.seeing.Viewing.{rows_seen, seen_there}

-- WRITES TO ONE TABLE. A removal of a key that has no row changes nothing
unchanged : (entries : List Entry) (w : Write) → (is_some w.row || has_row entries w.key) ≡ false → applied entries w ≡ entries
unchanged entries w none = elim (w.row) as (λ row. (is_some row || has_row entries w.key) ≡ false → changed_by row w.key entries ≡ entries) [
  | Some row ↦ λ none. absurd cc
  | None ↦ λ none. without_key-none key_cmp_total key_of_entry entries w.key (no_entry (entry_at key_cmp key_of_entry entries w.key) none)
] none
  where
    no_entry : (o : Option Entry) → is_some (option_map (λ (e : Entry). e.1) o) ≡ false → o ≡ None
    no_entry None none = refl
    no_entry (Some e) none = absurd cc

module _ (test : Write → Bool) where
  -- the test picks what a record tells, by the rows of the table
  abbrev Picks : List Entry → Write → Type 0
  Picks entries w = test w ≡ (is_some w.row || has_row entries w.key)

  -- and still does behind a write to a lesser key
  picks_behind : (entries : List Entry) (w : Write) (writes : List Write) → RisesFrom w.key (write_keys writes)
      → AllByRecursion (Picks entries) writes → AllByRecursion (Picks (applied entries w)) writes
  picks_behind entries w [] h picks = tt
  picks_behind entries w (v ∷ writes) h picks =
      let apart : is_eq (key_cmp w.key v.key) ≡ false = ap is_eq (less_from_test _ (and_parts _ _ h).0) in
      let same : row_under (applied entries w) v.key ≡ row_under entries v.key = row_under-applied entries w v.key ∙ ap (λ b. cond b w.row (row_under entries v.key)) apart in
      (picks.0 ∙ ap (λ row. is_some v.row || is_some row) (sym same), picks_behind entries w writes (rises_skip key_cmp_total w.key v.key (write_keys writes) h) picks.1)

  -- so the rows that it leaves out may be left out
  pub picked : (writes : List Write) (entries : List Entry) → rises key_cmp (write_keys writes) ≡ true → AllByRecursion (Picks entries) writes
      → fold applied entries (filter test writes) ≡ fold applied entries writes
  picked [] entries h picks = refl
  picked (w ∷ writes) entries h picks =
      let later = rises_tail key_cmp_total w.key (write_keys writes) h in
      elim (cases_Bool (test w)) [
        | inl told ↦ rw told (picked writes (applied entries w) later (picks_behind entries w writes h picks.1))
        | inr untold ↦ rw untold (picked writes entries later picks.1 ∙ ap (λ es. fold applied es writes) (sym (unchanged entries w (sym picks.0 ∙ untold))))
      ]

filters_either_way : {X : Type 0} (p q : X → Bool) (xs : List X) → filter p (filter q xs) ≡ filter q (filter p xs)
filters_either_way p q xs = filter-filter p q xs ∙ (λ i. filter (λ x. either_way (q x) (p x) i) xs) ∙ sym (filter-filter q p xs)
  where
    either_way : (a b : Bool) → (a && b) ≡ (b && a)
    either_way true true = refl
    either_way true false = refl
    either_way false true = refl
    either_way false false = refl

-- a key has a row among rows under their keys where it is a key of theirs
pub has_row_of : (table : Table) (rows : List (List Value)) (key : List Value) → has same_key (map (key_of table) rows) key ≡ has_row (entries_of table rows) key
has_row_of table [] key = refl
has_row_of table (row ∷ rows) key =
    ap₂ (λ b c. b || c) (symmetric key_cmp_total key (key_of table row)) (has_row_of table rows key)
    ∙ elim (is_eq (key_cmp (key_of table row) key)) as (λ b. (b || has_row (entries_of table rows) key) ≡ is_some (option_map (λ (e : Entry). e.1) (cond b (Some (key_of table row, row)) (entry_at key_cmp key_of_entry (entries_of table rows) key)))) [
      | true ↦ refl
      | false ↦ refl
    ]

-- what is told of the writes to a table that is there, and to one that is not
module _ (db : Database) (w : Write) where
  told_at : (s : Stored) → stored_at db w.table ≡ Some s → is_told db w ≡ (is_some w.row || has_row (entries_of s.table s.rows) w.key)
  told_at s there = rw there (ap (λ b. is_some w.row || b) (has_row_of s.table s.rows w.key))

  untold_at : stored_at db w.table ≡ None → is_told db w ≡ false
  untold_at none = rw none refl

  -- so a write that is told is to a table that is there
  there_if_told : is_told db w ≡ true → is_some (stored_at db w.table) ≡ true
  there_if_told told = on (stored_at db w.table) refl
    where
      on : (o : Option Stored) → stored_at db w.table ≡ o → is_some o ≡ true
      on None none = absurd (false≢true (sym (untold_at none) ∙ told))
      on (Some s) there = refl

-- of the writes to one table before others something is told, or of the others
pub any_in_front : (db : Database) (name : List ℕ) (s : Stored) → stored_at db name ≡ Some s → (ws : List KeyWrite) (rest : List Write)
    → list_any (is_told db) (writes_in name ws ++ rest) ≡ (list_any (is_told_in (entries_of s.table s.rows)) ws || list_any (is_told db) rest)
any_in_front db name s there [] rest = refl
any_in_front db name s there (w ∷ ws) rest =
    ap₂ (λ b c. b || c) (told_at db (record { table = name; key = w.0; row = w.1 }) s there) (any_in_front db name s there ws rest)
    ∙ either_of_three (is_told_in (entries_of s.table s.rows) w) _ _
  where
    either_of_three : (a b c : Bool) → (a || (b || c)) ≡ ((a || b) || c)
    either_of_three true b c = refl
    either_of_three false b c = refl

pub none_in_front : (db : Database) (name : List ℕ) → stored_at db name ≡ None → (ws : List KeyWrite) (rest : List Write)
    → list_any (is_told db) (writes_in name ws ++ rest) ≡ list_any (is_told db) rest
none_in_front db name none [] rest = refl
none_in_front db name none (w ∷ ws) rest =
    ap₂ (λ b c. b || c) (untold_at db (record { table = name; key = w.0; row = w.1 }) none) (none_in_front db name none ws rest)

-- what is told is something, or nothing
pub nothing_told : (lazy : LazyState) (writes : List Write) → tells lazy writes ≡ false → told_of lazy writes ≡ []
nothing_told lazy writes none = filter_none (is_told lazy.live) writes none

pub tells_nothing : (lazy : LazyState) (writes : List Write) → told_of lazy writes ≡ [] → tells lazy writes ≡ false
tells_nothing lazy [] none = refl
tells_nothing lazy (w ∷ writes) none = elim (cases_Bool (is_told lazy.live w)) [
  | inl told ↦
      let some : w ∷ told_of lazy writes ≡ [] = rw told at none in
      absurd cc
  | inr untold ↦
      let later : told_of lazy writes ≡ [] = rw untold at none in
      rw untold (tells_nothing lazy writes later)
]

module _ (lazy : LazyState) (is : IsLazy lazy) (writes : List Write) (opened : IsOpenLazily lazy writes) where
  abbrev told : List Write
  told = told_of lazy writes

  module _ (s : Stored) (there : IsThere lazy.live s) where
    picks_here : (ws : List Write) → AllByRecursion (Picks (is_told lazy.live) (entries_of s.table s.rows)) (writes_to s.table.name ws)
    picks_here [] = tt
    picks_here (w ∷ ws) = elim (cases_Bool (same_name w.table s.table.name)) [
      | inl same ↦
          let found : stored_at lazy.live w.table ≡ Some s = ap (stored_at lazy.live) (name-equal w.table s.table.name same) ∙ there in
          rw same (told_at lazy.live w s found, picks_here ws)
      | inr other ↦ rw other (picks_here ws)
    ]

    same_written : written_to told s ≡ written_to writes s
    same_written =
        let name = s.table.name in
        let entries = entries_of s.table s.rows in
        let rows : rows_of (fold applied entries (writes_to name told)) ≡ rows_of (fold applied entries (writes_to name writes)) =
        ap (λ ws. rows_of (fold applied entries ws)) (filters_either_way (λ (w : Write). same_name w.table name) (is_told lazy.live) writes)
        ∙ ap rows_of (picked (is_told lazy.live) (writes_to name writes) entries (by_key writes name opened.over_live.by_table_key) (picks_here writes)) in
        λ i. record { table = s.table; rows = rows i }

  -- COMMIT of what is told is that of all
  pub told_is_all : committed lazy.live told ≡ committed lazy.live writes
  told_is_all =
      let tables = map_each (IsThere lazy.live) (written_to told) (written_to writes) same_written lazy.live.tables (all_there lazy.live is.live) in
      λ i. record { number = lazy.live.number; tables = tables i; indexes = lazy.live.indexes }

  -- and a transaction that has written only that is open
  pub told_opened : IsOpenLazily lazy told
  told_opened = record {
    over_live = record {
      database = subst IsDatabase (sym told_is_all) opened.over_live.database;
      by_table_key = rises-filter table_key_cmp_total table_key_of (is_told lazy.live) writes opened.over_live.by_table_key;
      own_keys = each (Stands told) lazy.live.tables (weakened (Stands writes) (Stands told)
          (λ s own. record { heap = own.heap; workspace = All-filter (is_told lazy.live) (WritesOwnKey s.table) writes own.workspace }) lazy.live.tables
          (by_recursion (Stands writes) lazy.live.tables opened.over_live.own_keys));
    };
    free = weakened (λ (s : Stored). AreFree lazy.last writes s.table) (λ (s : Stored). AreFree lazy.last told s.table)
        (λ s free. filtered (λ (w : Write). w.table ≡ s.table.name → is_free lazy.last s.table w.key ≡ true) (is_told lazy.live) writes free) lazy.live.tables opened.free;
  }

  pub told_is_all_seen : committed (view_of lazy) told ≡ committed (view_of lazy) writes
  told_is_all_seen =
      sym (commit_is_seen lazy is told told_opened)
      ∙ ap (λ live. view_of (record lazy { live = live })) told_is_all
      ∙ commit_is_seen lazy is writes opened

  -- A ROW STANDS in the live table of a key that is written exactly where it is seen
  abbrev pub is_seen : Write → Bool
  is_seen w = has same_key (map (key_of (table_at lazy.live w.table)) (table_rows (view_of lazy) w.table)) w.key

  abbrev pub AreAlike : Write → Type 0
  AreAlike w = stands_in lazy.live w ≡ is_seen w

  abbrev rows_at : Option Stored → List (List Value)
  rows_at o = unwrap_or (option_map (λ (s : Stored). s.rows) o) []

  alike_at : (w : Write) → ((s : Stored) → IsThere lazy.live s → w.table ≡ s.table.name → is_free lazy.last s.table w.key ≡ true) → AreAlike w
  alike_at w free =
      let shown = seen_there lazy is w.table in
      let keys : List (List Value) → Bool = λ rows. has same_key (map (key_of (table_at lazy.live w.table)) rows) w.key in
      on (stored_at lazy.live w.table) refl ∙ ap (λ o. keys (rows_at o)) (sym shown)
    where
      or_false : (b : Bool) → (b || false) ≡ b
      or_false true = refl
      or_false false = refl

      on : (o : Option Stored) → stored_at lazy.live w.table ≡ o
          → has same_key (map (key_of (table_at lazy.live w.table)) (table_rows lazy.live w.table)) w.key
          ≡ has same_key (map (key_of (table_at lazy.live w.table)) (rows_at (option_map (seen lazy.last) (stored_at lazy.live w.table)))) w.key
      on None e = rw e refl
      on (Some s) e =
          let name : s.table.name ≡ w.table = name-equal s.table.name w.table (passes_if_found (λ (s : Stored). same_name s.table.name w.table) lazy.live.tables s e) in
          let there : IsThere lazy.live s = ap (stored_at lazy.live) name ∙ e in
          let none : has same_key (map (key_of s.table) (due lazy.last s.table.name)) w.key ≡ false = not-true _ (free s there (sym name)) in
          let whole : has same_key (map (key_of s.table) (seen lazy.last s).rows) w.key ≡ has same_key (map (key_of s.table) s.rows) w.key =
          ap (λ rows. has same_key (map (key_of s.table) rows) w.key) (rows_seen lazy is s there)
          ∙ has-with_placed key_cmp_total (key_of s.table) s.rows (due lazy.last s.table.name) w.key
          ∙ ap (λ ks. has same_key ks w.key) (map-append (key_of s.table) s.rows (due lazy.last s.table.name))
          ∙ list_any-append (same_key w.key) (map (key_of s.table) s.rows) (map (key_of s.table) (due lazy.last s.table.name))
          ∙ ap (λ b. has same_key (map (key_of s.table) s.rows) w.key || b) none
          ∙ or_false (has same_key (map (key_of s.table) s.rows) w.key) in
          rw e (sym whole)

  alike : (ws : List Write) → ((s : Stored) → IsThere lazy.live s → AreFree lazy.last ws s.table) → AllByRecursion AreAlike ws
  alike [] free = tt
  alike (w ∷ ws) free = (alike_at w (λ s there named. (free s there).0 named), alike ws (λ s there. (free s there).1))

  pub stand_where_seen : AllByRecursion AreAlike writes
  stand_where_seen = alike writes (λ s there. each_at_table (λ u. AreFree lazy.last writes u.table) lazy.live.tables s there opened.free)

  -- so what is told is legal
  seen_if_told : (w : Write) → AreAlike w → is_told lazy.live w ≡ true → (is_some w.row || is_seen w) ≡ true
  seen_if_told w same told = either (is_some (stored_at lazy.live w.table)) (is_some w.row) (is_seen w) (ap (λ b. (is_some (stored_at lazy.live w.table) && is_some w.row) || b) (sym same) ∙ told)
    where
      either : (a b c : Bool) → ((a && b) || c) ≡ true → (b || c) ≡ true
      either a true c all = refl
      either true false c all = all
      either false false c all = all

  told_seen : (ws : List Write) → AllByRecursion AreAlike ws → list_all (λ w. is_some w.row || is_seen w) (filter (is_told lazy.live) ws) ≡ true
  told_seen [] all = refl
  told_seen (w ∷ ws) all = elim (cases_Bool (is_told lazy.live w)) [
    | inl told ↦ rw told (and_from _ _ (seen_if_told w all.0 told) (told_seen ws all.1))
    | inr untold ↦ rw untold (told_seen ws all.1)
  ]

  told_there : (ws : List Write) → list_all (λ w. is_some (stored_at lazy.live w.table)) (filter (is_told lazy.live) ws) ≡ true
  told_there [] = refl
  told_there (w ∷ ws) = elim (cases_Bool (is_told lazy.live w)) [
    | inl told ↦ rw told (and_from _ _ (there_if_told lazy.live w told) (told_there ws))
    | inr untold ↦ rw untold (told_there ws)
  ]

  pub told_legal : IsLegalCommit lazy told
  told_legal = record {
    opened = told_opened;
    tables = told_there writes;
    removals = told_seen writes stand_where_seen;
  }

  -- WHERE NOTHING IS TOLD, all stays
  module _ (none : told ≡ []) where
    pub untold_stays : committed lazy.live writes ≡ lazy.live
    untold_stays = sym told_is_all ∙ ap (committed lazy.live) none ∙ nothing_written lazy.live

    pub untold_stays_seen : committed (view_of lazy) writes ≡ view_of lazy
    untold_stays_seen = sym told_is_all_seen ∙ ap (committed (view_of lazy)) none ∙ nothing_written (view_of lazy)
