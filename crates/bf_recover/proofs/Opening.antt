-- A transaction that has written what a record may write is open over the lazy state.
use Rattle.std.proofs.Common.{◌≡◌, ℕ, Bool, true, ◌&&◌, List, [], ◌∷◌, map, Option, Some, option_map, unwrap_or, refl, sym, ap, ap₂, subst, ◌∙◌, inl, inr}
use Rattle.std.specs.List.{list_all, AllByRecursion}
use Rattle.std.proofs.lemmas.Bool.{and_parts, and_from, cases_Bool}
use Rattle.std.proofs.lemmas.List.Folds.{list_all-map}
use Rattle.std.proofs.lemmas.Option.{same_Some}
use Rattle.std.proofs.lemmas.Simd.{map-map}
use Rattle.bf_base.specs.declared.table.Table.{Table}
use Rattle.bf_base.specs.declared.value.Value.{Value}
use Rattle.bf_base.specs.Lists.{name_cmp, rises, same_name}
use Rattle.bf_base.specs.Maps.{is_map}
use Rattle.bf_base.specs.Tables.{key_of}
use Rattle.bf_base.specs.Values.{key_cmp}
use Rattle.bf_base.proofs.Order.{list_any-map}
use Rattle.bf_base.proofs.Parts.{list_all_each}
use Rattle.bf_heap.specs.Heaps.{Entry, key_of_entry}
use Rattle.bf_record.specs.declared.writes.RowChange.{RowChange}
use Rattle.bf_record.specs.declared.writes.RowChange.TheVariants.{Removed, Put}
use Rattle.bf_record.specs.declared.writes.TableWrite.{TableWrite}
use Rattle.bf_sql.specs.Database.{Database, Stored, IsDatabase, is_admitted, is_keyed, is_on_table, is_within, no_table, table_at}
use Rattle.bf_sql.specs.migrations.Lazy.{LazyState}
use Rattle.bf_txn.specs.declared.write.Write.{Write}
use Rattle.bf_txn.specs.Writes.{table_key_cmp, table_key_of, writes_to}
use Rattle.bf_live.specs.Meanings.{HoldRowsOf, entries_of}
use Rattle.bf_live.specs.Merged.{HasOwnKey, WritesOwnKey, entries_under}
use Rattle.bf_live.proofs.querying.Binding.{as_stored, row_within}
use Rattle.bf_live.proofs.querying.Keyed.{is_map-fold}
use Rattle.bf_live.proofs.querying.Merging.{rows_of}
use Rattle.bf_live.proofs.querying.OwnKeys.{OwnKeys, each, fold_keeps, own_keys, weakened}
use Rattle.bf_live.proofs.querying.RowsAsEntries.{hold_rows}
use Rattle.bf_image.proofs.items.Lists.{all_so}
use Rattle.bf_image.proofs.items.Names.{name-equal}
use Rattle.bf_live.specs.Live.{committed, written_to}
use Rattle.bf_live.proofs.statements.Named.{IsThere, all_there, rows_there}
use Rattle.bf_live.proofs.statements.Seeing.{Stands}
use Rattle.bf_store.specs.States.{AreFree, IsLazy, IsOpenLazily, is_free}
use Rattle.bf_store.proofs.coming.Found.{are_admitted, at_table, name_of}
use Rattle.bf_recover.specs.Commits.{is_legal_write, may_be, write_by, writes_of}

-- the table under its own name
pub table_there : (live : Database) (s : Stored) → IsThere live s → table_at live s.table.name ≡ s.table
table_there live s there = ap (λ (o : Option Stored). unwrap_or (option_map (λ (t : Stored). t.table) o) no_table) there

-- rows under their own keys have those keys
keys_of_rows : (table : Table) (entries : List Entry) → OwnKeys table entries → map (key_of table) (rows_of entries) ≡ map key_of_entry entries
keys_of_rows table [] own = refl
keys_of_rows table (e ∷ entries) own = ap₂ (λ k ks. k ∷ ks) own.0.1 (keys_of_rows table entries own.1)

module _ (table : Table) where
  abbrev AdmitsRow : Entry → Type 0
  AdmitsRow e = is_admitted table e.1 ≡ true

  as_entries : (rows : List (List Value)) → list_all (is_admitted table) rows ≡ true → AllByRecursion AdmitsRow (entries_of table rows)
  as_entries [] all = tt
  as_entries (row ∷ rows) all = ((and_parts _ _ all).0, as_entries rows (and_parts _ _ all).1)

  as_rows : (entries : List Entry) → AllByRecursion AdmitsRow entries → list_all (is_admitted table) (rows_of entries) ≡ true
  as_rows [] all = refl
  as_rows (e ∷ entries) all = and_from _ _ all.0 (as_rows entries all.1)

module _ (lazy : LazyState) (is : IsLazy lazy) where
  abbrev IsLegal : Write → Type 0
  IsLegal w = is_legal_write lazy w ≡ true

  -- a legal write to a table
  module _ (s : Stored) (there : IsThere lazy.live s) where
    -- puts a row that the table admits
    abbrev PutsAdmitted : Write → Type 0
    PutsAdmitted w = (row : List Value) → w.row ≡ Some row → is_admitted s.table row ≡ true

    same_table : (name : List ℕ) → name ≡ s.table.name → s.table ≡ table_at lazy.live name
    same_table name named = sym (ap (table_at lazy.live) named ∙ table_there lazy.live s there)

    admitted : (w : Write) → w.table ≡ s.table.name → IsLegal w → PutsAdmitted w
    admitted w named legal row is_put =
        let may : may_be lazy w (Some row) ≡ true = ap (may_be lazy w) (sym is_put) ∙ (and_parts _ _ legal).1 in
        ap (λ t. is_admitted t row) (same_table w.table named) ∙ may

    -- under its own key
    own : (name : List ℕ) (change : RowChange) → IsLegal (write_by (table_at lazy.live name) name change) → WritesOwnKey s.table (write_by (table_at lazy.live name) name change)
    own name (Removed key) legal row named is_put = absurd cc
    own name (Put r) legal row named is_put =
        let here : is_admitted s.table r ≡ true = admitted (write_by (table_at lazy.live name) name (Put r)) named legal r refl in
        let within : is_within s.table s.table.key ≡ true = at_table (λ u. is_within u.table u.table.key) lazy.live.tables s there is.live.keys_within in
        subst (HasOwnKey s.table (key_of (table_at lazy.live name) r)) (same_Some r row is_put) (row_within s.table within r here, ap (λ t. key_of t r) (same_table name named))

    all_own : (writes : List TableWrite) → list_all (is_legal_write lazy) (writes_of lazy.live writes) ≡ true → AllByRecursion (WritesOwnKey s.table) (writes_of lazy.live writes)
    all_own [] legal = tt
    all_own (w ∷ writes) legal = (own w.table w.change (and_parts _ _ legal).0, all_own writes (and_parts _ _ legal).1)

    all_admitted : (writes : List Write) → list_all (is_legal_write lazy) writes ≡ true → AllByRecursion PutsAdmitted (writes_to s.table.name writes)
    all_admitted [] legal = tt
    all_admitted (w ∷ writes) legal = elim (cases_Bool (same_name w.table s.table.name)) [
      | inl same ↦ rw same (admitted w (name-equal w.table s.table.name same) (and_parts _ _ legal).0, all_admitted writes (and_parts _ _ legal).1)
      | inr other ↦ rw other (all_admitted writes (and_parts _ _ legal).1)
    ]

    -- and to a free key
    all_free : (writes : List Write) → list_all (is_legal_write lazy) writes ≡ true → AreFree lazy.last writes s.table
    all_free [] legal = tt
    all_free (w ∷ writes) legal =
        let parts = and_parts _ _ legal in
        let free : is_free lazy.last (table_at lazy.live w.table) w.key ≡ true = (and_parts _ _ (and_parts _ _ parts.0).0).1 in
        ((λ named. ap (λ t. is_free lazy.last t w.key) (same_table w.table named) ∙ free), all_free writes parts.1)

    -- the rows that the table has, under their keys
    held : HoldRowsOf lazy.live s.table (entries_of s.table s.rows) []
    held =
        let rows = rows_there lazy.live s there in
        subst (λ (rs : List (List Value)). HoldRowsOf lazy.live s.table (entries_of s.table rs) []) rows (hold_rows lazy.live s.table is.live (there ∙ ap (λ (rs : List (List Value)). Some (as_stored s.table rs)) (sym rows)))

  module _ (writes : List TableWrite) (legal : list_all (is_legal_write lazy) (writes_of lazy.live writes) ≡ true) where
    abbrev keyed_writes : List Write
    keyed_writes = writes_of lazy.live writes

    module _ (s : Stored) (there : IsThere lazy.live s) where
      abbrev entries : List Entry
      entries = entries_of s.table s.rows

      stands : Stands keyed_writes s
      stands = record { heap = (held s there).under_own_keys.heap; workspace = each (WritesOwnKey s.table) keyed_writes (all_own s there writes legal) }

      keyed_then : is_keyed (written_to keyed_writes s) ≡ true
      keyed_then =
          ap (rises key_cmp) (keys_of_rows s.table (entries_under entries keyed_writes s.table.name) (own_keys s.table entries keyed_writes stands))
          ∙ is_map-fold (writes_to s.table.name keyed_writes) entries (held s there).entries_by_key

      admitted_then : are_admitted (written_to keyed_writes s) ≡ true
      admitted_then =
          let before = as_entries s.table s.rows (at_table are_admitted lazy.live.tables s there is.live.rows_admitted) in
          as_rows s.table (entries_under entries keyed_writes s.table.name)
          (fold_keeps (AdmitsRow s.table) (writes_to s.table.name keyed_writes) entries before (all_admitted s there keyed_writes legal))

    for_each : (test : Stored → Bool) → ((s : Stored) → IsThere lazy.live s → test (written_to keyed_writes s) ≡ true)
        → list_all test (map (written_to keyed_writes) lazy.live.tables) ≡ true
    for_each test one = list_all-map test (written_to keyed_writes) lazy.live.tables ∙ list_all_each (IsThere lazy.live) (λ s. test (written_to keyed_writes s)) one lazy.live.tables (all_there lazy.live is.live)

    -- the tables with the writes are a database
    database_then : IsDatabase (committed lazy.live keyed_writes)
    database_then = record {
      tables_by_name = ap (rises name_cmp) (map-map name_of (written_to keyed_writes) lazy.live.tables) ∙ is.live.tables_by_name;
      indexes_by_name = is.live.indexes_by_name;
      rows_by_key = for_each is_keyed keyed_then;
      rows_admitted = for_each are_admitted admitted_then;
      keys_within = list_all-map (λ s. is_within s.table s.table.key) (written_to keyed_writes) lazy.live.tables ∙ is.live.keys_within;
      indexes_on_tables = all_so (is_on_table lazy.live) (is_on_table (committed lazy.live keyed_writes)) (λ index on. list_any-map (λ s. same_name s.table.name index.table && is_within s.table index.columns) (written_to keyed_writes) lazy.live.tables ∙ on) lazy.live.indexes is.live.indexes_on_tables;
    }

    -- OPEN: so a transaction that has written them is open
    pub opens : is_map table_key_cmp table_key_of keyed_writes ≡ true → IsOpenLazily lazy keyed_writes
    opens rising = record {
      over_live = record {
        database = database_then;
        by_table_key = rising;
        own_keys = each (Stands keyed_writes) lazy.live.tables (weakened (IsThere lazy.live) (Stands keyed_writes) stands lazy.live.tables (all_there lazy.live is.live));
      };
      free = weakened (IsThere lazy.live) (λ s. AreFree lazy.last keyed_writes s.table) (λ s there. all_free s there keyed_writes legal) lazy.live.tables (all_there lazy.live is.live);
    }
