-- What databases have alike, under what a transaction has written over both, and after what another commits.
use Rattle.std.proofs.Common.{◌≡◌, ℕ, Bool, true, false, cond, List, [], ◌∷◌, map, find, fold, Ordering, Less, Equal, Greater, Option, Some, None, option_map, unwrap_or, refl, sym, ap, ap₂, ◌∙◌, inl, inr, is_eq}
use Rattle.std.specs.Prelude.{option_and_then}
use Rattle.std.specs.List.{AllByRecursion}
use Rattle.std.specs.Ordering.{ordering_then}
use Rattle.std.proofs.lemmas.Bool.{cases_Bool}
use Rattle.std.proofs.lemmas.Option.{same_Some}
use Rattle.bf_base.specs.declared.value.Value.{Value}
use Rattle.bf_base.specs.declared.table.Table.{Table}
use Rattle.bf_base.specs.Lists.{name_cmp, same_key, same_name}
use Rattle.bf_base.specs.Tables.{key_of}
use Rattle.bf_base.specs.Values.{key_cmp}
use Rattle.bf_base.proofs.Order.{equal_from_test}
use Rattle.bf_base.proofs.Ties.{key_ties, name_ties}
use Rattle.bf_heap.specs.Heaps.{Entry, row_under}
use Rattle.bf_locks.specs.declared.mode.Mode.{Mode}
use Rattle.bf_locks.specs.declared.mode.Mode.TheVariants.{IS, IX, S, SIX, X}
use Rattle.bf_locks.specs.declared.name.LockName.{LockName}
use Rattle.bf_locks.specs.declared.name.LockName.TheVariants.{Catalog, Whole, One}
use Rattle.bf_sql.specs.Database.{Database, Stored, no_table, stored_at, table_rows}
use Rattle.bf_sql.specs.Bound.{catalog_of}
use Rattle.bf_live.specs.Live.{committed, written_to}
use Rattle.bf_txn.specs.declared.write.Write.{Write}
use Rattle.bf_txn.specs.Writes.{table_key_cmp, table_key_of, written_at, writes_to}
use Rattle.bf_live.specs.Meanings.{entries_of}
use Rattle.bf_live.specs.Merged.{applied, entries_under}
use Rattle.bf_live.proofs.querying.Binding.{as_stored, one_name}
use Rattle.bf_live.proofs.querying.Keyed.{row_under-entries_under}
use Rattle.bf_live.proofs.querying.OwnKeys.{OwnKeys, by_recursion, own_keys}
use Rattle.bf_live.proofs.querying.RowsAsEntries.{rows_are}
use Rattle.bf_live.specs.Open.{IsOpen}
use Rattle.bf_live.proofs.statements.Named.{found_among}
use Rattle.bf_live.proofs.statements.Seeing.{Stands, same_catalog, seen_at}
use Rattle.bf_sql.specs.Agreement.{AgreeAt, row_at}
use Rattle.bf_live.proofs.locking.Alike.{row_is, tables_alike}

-- what a search finds passes its test
find_passes : {X : Type 0} (test : X → Bool) (xs : List X) (x : X) → find test xs ≡ Some x → test x ≡ true
find_passes test [] x e = absurd cc
find_passes test (y ∷ ys) x e = elim (cases_Bool (test y)) [
  | inl passes ↦
      let same : y ≡ x = same_Some y x (sym (ap (λ b. cond b (Some y) (find test ys)) passes) ∙ e) in
      ap test (sym same) ∙ passes
  | inr fails ↦ find_passes test ys x (sym (ap (λ b. cond b (Some y) (find test ys)) fails) ∙ e)
]

-- a table that is found, from its columns and its rows
found_again : (o : Option Stored) → o ≡ option_map (λ t. as_stored t (unwrap_or (option_map (λ s. s.rows) o) [])) (option_map (λ s. s.table) o)
found_again None = refl
found_again (Some s) = refl

pub stored_alike : (a b : Database) (name : List ℕ) → catalog_of a ≡ catalog_of b → table_rows a name ≡ table_rows b name → stored_at a name ≡ stored_at b name
stored_alike a b name same rows =
    found_again (stored_at a name)
    ∙ ap₂ (λ (rs : List (List Value)) (o : Option Table). option_map (λ t. as_stored t rs) o) rows (tables_alike a b same name)
    ∙ sym (found_again (stored_at b name))

abbrev rows_in : Option Stored → List (List Value)
rows_in o = unwrap_or (option_map (λ s. s.rows) o) []

-- the row at a key, among entries under their own keys
row_of_own : (table : Table) (entries : List Entry) (key : List Value) → OwnKeys table entries → find (λ row. same_key (key_of table row) key) (map (λ (e : Entry). e.1) entries) ≡ row_under entries key
row_of_own table [] key own = refl
row_of_own table (e ∷ entries) key own =
    let rest = row_of_own table entries key own.1 in
    ap (λ (k : List Value). cond (is_eq (key_cmp k key)) (Some e.1) (find (λ row. same_key (key_of table row) key) (map (λ (e : Entry). e.1) entries))) own.0.1
    ∙ elim (is_eq (key_cmp e.0 key)) as (λ b. cond b (Some e.1) (find (λ row. same_key (key_of table row) key) (map (λ (e : Entry). e.1) entries)) ≡ option_map (λ (e : Entry). e.1) (cond b (Some e) (find (λ (e : Entry). is_eq (key_cmp e.0 key)) entries))) [ true ↦ refl | false ↦ rest ]

-- the row at a key, of the table that is found under a name
abbrev row_found : Option Stored → List Value → Option (List Value)
row_found o key = find (λ row. same_key (key_of (unwrap_or (option_map (λ s. s.table) o) no_table) row) key) (rows_in o)

-- WHAT A TRANSACTION SEES AT A KEY: what it has written there, and else what is committed there
module _ (db : Database) (writes : List Write) (opened : IsOpen db writes) (name : List ℕ) (key : List Value) where
  abbrev over : Option Table → Option (List Value)
  over o = option_and_then (λ t. unwrap_or (written_at writes (name, key)) (row_at db name key)) o

  seen_there : (s : Stored) → stored_at db name ≡ Some s → row_found (Some (written_to writes s)) key ≡ unwrap_or (written_at writes (name, key)) (row_at db name key)
  seen_there s found =
      let named : s.table.name ≡ name = one_name s.table.name name (find_passes (λ (s : Stored). same_name s.table.name name) db.tables s found) in
      let entries = entries_of s.table s.rows in
      let stands = found_among (Stands writes) db.tables s (by_recursion (Stands writes) db.tables opened.own_keys) name found in
      let before : row_under entries key ≡ row_at db name key = row_is s.table s.rows key ∙ sym (ap (λ (o : Option Stored). row_found o key) found) in
      row_of_own s.table (entries_under entries writes s.table.name) key (own_keys s.table entries writes stands)
      ∙ row_under-entries_under entries writes s.table.name key opened.by_table_key
      ∙ ap₂ (λ (n : List ℕ) (row : Option (List Value)). unwrap_or (written_at writes (n, key)) row) named before

  pub row_seen : row_at (committed db writes) name key ≡ over (option_map (λ s. s.table) (stored_at db name))
  row_seen =
      ap (λ (o : Option Stored). row_found o key) (seen_at db writes name)
      ∙ elim (stored_at db name) as (λ o. stored_at db name ≡ o → row_found (option_map (written_to writes) o) key ≡ over (option_map (λ s. s.table) o)) [
        | None ↦ λ found. refl
        | Some s ↦ λ found. seen_there s found
      ] refl

-- nothing is at a key where no table is
row_or_none : (db : Database) (name : List ℕ) (key : List Value) → row_at db name key ≡ option_and_then (λ t. row_at db name key) (option_map (λ s. s.table) (stored_at db name))
row_or_none db name key =
    elim (stored_at db name) as (λ o. stored_at db name ≡ o → row_at db name key ≡ option_and_then (λ t. row_at db name key) (option_map (λ s. s.table) o)) [
      | None ↦ λ found. ap (λ (o : Option Stored). row_found o key) found
      | Some s ↦ λ found. refl
    ] refl

-- agreement at a name outlasts what a transaction writes over both
module _ (a b : Database) (writes : List Write) (open_a : IsOpen a writes) (open_b : IsOpen b writes) (same : catalog_of a ≡ catalog_of b) where
  catalogs : catalog_of (committed a writes) ≡ catalog_of (committed b writes)
  catalogs = same_catalog a writes ∙ same ∙ sym (same_catalog b writes)

  pub still_agree : (name : LockName) (mode : Mode) → AgreeAt a b name mode → AgreeAt (committed a writes) (committed b writes) name mode
  still_agree Catalog IS agree = catalogs
  still_agree Catalog IX agree = catalogs
  still_agree Catalog S agree = catalogs
  still_agree Catalog SIX agree = catalogs
  still_agree Catalog X agree = ap (λ (db : Database). committed db writes) agree
  still_agree (Whole table) mode agree = λ reads.
      let found = stored_alike a b table same (agree reads) in
      ap rows_in (seen_at a writes table ∙ ap (option_map (written_to writes)) found ∙ sym (seen_at b writes table))
  still_agree (One table key) mode agree =
      row_seen a writes open_a table key
      ∙ ap₂ (λ (row : Option (List Value)) (o : Option Table). option_and_then (λ t. unwrap_or (written_at writes (table, key)) row) o) agree (tables_alike a b same table)
      ∙ sym (row_seen b writes open_b table key)

-- WHAT OTHERS COMMIT: no write to a table leaves its rows, and none to a key the row there
no_write_to : (name : List ℕ) (writes : List Write) → AllByRecursion (λ w. same_name w.table name ≡ false) writes → writes_to name writes ≡ []
no_write_to name [] all = refl
no_write_to name (w ∷ writes) all = rw all.0 (no_write_to name writes all.1)

no_write_at : (spot : List ℕ × List Value) (writes : List Write) → AllByRecursion (λ w. is_eq (table_key_cmp (table_key_of w) spot) ≡ false) writes → written_at writes spot ≡ None
no_write_at spot writes all = ap (λ (o : Option Write). option_map (λ (w : Write). w.row) o) (none_found writes all)
  where
    none_found : (writes : List Write) → AllByRecursion (λ w. is_eq (table_key_cmp (table_key_of w) spot) ≡ false) writes → find (λ (w : Write). is_eq (table_key_cmp (table_key_of w) spot)) writes ≡ None
    none_found [] all = refl
    none_found (w ∷ writes) all = rw all.0 (none_found writes all.1)

pub one_spot : (one other : List ℕ) (key at : List Value) → is_eq (table_key_cmp (one, key) (other, at)) ≡ true → (one ≡ other) × (key ≡ at)
one_spot one other key at e =
    let parts = both (name_cmp one other) (key_cmp key at) (equal_from_test _ e) in
    ((name_ties one other).0 parts.0, (key_ties key at).0 parts.1)
  where
    both : (r s : Ordering) → ordering_then r s ≡ Equal → (r ≡ Equal) × (s ≡ Equal)
    both Less s e = absurd cc
    both Equal s e = (refl, e)
    both Greater s e = absurd cc

module _ (db : Database) (writes : List Write) where
  pub rows_stay : (name : List ℕ) → AllByRecursion (λ w. same_name w.table name ≡ false) writes → table_rows db name ≡ table_rows (committed db writes) name
  rows_stay name all =
      elim (stored_at db name) as (λ o. stored_at db name ≡ o → rows_in o ≡ rows_in (option_map (written_to writes) o)) [
        | None ↦ λ found. refl
        | Some s ↦ λ found.
            let named : s.table.name ≡ name = one_name s.table.name name (find_passes (λ (s : Stored). same_name s.table.name name) db.tables s found) in
            sym (ap (λ (ws : List Write). map (λ (e : Entry). e.1) (fold applied (entries_of s.table s.rows) ws)) (ap (λ (n : List ℕ). writes_to n writes) named ∙ no_write_to name writes all) ∙ rows_are s.table s.rows)
      ] refl ∙ sym (ap rows_in (seen_at db writes name))

  pub row_stays : IsOpen db writes → (name : List ℕ) (key : List Value) → AllByRecursion (λ w. is_eq (table_key_cmp (table_key_of w) (name, key)) ≡ false) writes → row_at db name key ≡ row_at (committed db writes) name key
  row_stays opened name key all =
      row_or_none db name key
      ∙ sym (row_seen db writes opened name key ∙ ap (λ (o : Option (Option (List Value))). option_and_then (λ (t : Table). unwrap_or o (row_at db name key)) (option_map (λ (s : Stored). s.table) (stored_at db name))) (no_write_at (name, key) writes all))
