-- What a commit tells is legal, and makes what the commit makes.
use Rattle.std.proofs.Common.{◌≡◌, ℕ, true, ◌||◌, List, [], ◌∷◌, map, Option, Some, None, option_map, unwrap_or, is_some, get_or, refl, sym, ap, ap₂, ◌∙◌, arith}
use Rattle.std.specs.Prelude.{nat_le, length}
use Rattle.std.specs.List.{AllByRecursion, list_all}
use Rattle.std.proofs.lemmas.Bool.{and_from, and_parts, false≢true}
use Rattle.std.proofs.lemmas.Bool.Decides.{nat_tests}
use Rattle.std.proofs.lemmas.Cmp.{tied_itself}
use Rattle.std.proofs.lemmas.List.Folds.{list_all-map}
use Rattle.std.proofs.lemmas.Option.{same_Some}
use Rattle.bf_base.specs.declared.table.Table.{Table}
use Rattle.bf_base.specs.declared.value.Value.{Value}
use Rattle.bf_base.specs.Lists.{same_name}
use Rattle.bf_base.specs.Maps.{entry_at, has_key}
use Rattle.bf_base.specs.Tables.{key_of}
use Rattle.bf_base.specs.Values.{key_cmp}
use Rattle.bf_base.proofs.Maps.{entry_at-found}
use Rattle.bf_heap.specs.Heaps.{Entry, key_of_entry, row_under}
use Rattle.bf_record.specs.declared.change.Change.TheVariants.{Commit}
use Rattle.bf_record.specs.declared.writes.TableWrite.{TableWrite}
use Rattle.bf_txn.specs.declared.write.Write.{Write}
use Rattle.bf_txn.specs.Writes.{table_key_of, written_at}
use Rattle.bf_txn.proofs.Tables.{table_key_cmp_total}
use Rattle.bf_sql.specs.Database.{Stored, is_admitted, no_table, stored_at, table_at}
use Rattle.bf_sql.specs.migrations.Lazy.{LazyState}
use Rattle.bf_live.specs.Meanings.{entries_of}
use Rattle.bf_live.specs.Merged.{WritesOwnKey, entries_under}
use Rattle.bf_live.proofs.querying.Keyed.{row_under-entries_under}
use Rattle.bf_live.proofs.querying.OwnKeys.{by_recursion}
use Rattle.bf_image.proofs.items.Lists.{all_found}
use Rattle.bf_image.proofs.items.Names.{name-equal}
use Rattle.bf_live.specs.Live.{written_to}
use Rattle.bf_live.proofs.statements.Named.{IsThere}
use Rattle.bf_live.proofs.statements.Seeing.{Stands}
use Rattle.bf_store.specs.Calls.{IsLegalCommit, after_commit, tells, told_of, with_commit}
use Rattle.bf_store.specs.States.{AreFree, IsLazy, IsOpenLazily, is_free}
use Rattle.bf_store.proofs.Recorded.{after_told, by_record}
use Rattle.bf_store.proofs.coming.Found.{are_admitted, at_table, each_at_table, passes_if_found}
use Rattle.bf_store.proofs.seeing.Telling.{tells_nothing, told_legal}
use Rattle.bf_recover.specs.Commits.{is_legal_commit, is_legal_write, is_seen, may_be, write_by, write_of, writes_of}
use Rattle.bf_run.specs.Records.{IsRecordOf, row_told, write_told, writes_told}

-- a write as it is told
abbrev tell : Write → TableWrite
tell w = write_told w.table (w.key, w.row)

-- WRITES OF A LEGAL COMMIT
module _ (lazy : LazyState) (writes : List Write) (is : IsLegalCommit lazy writes) where
  -- each is what is written to its key
  abbrev IsNoted : Write → Type 0
  IsNoted w = written_at writes (table_key_of w) ≡ Some w.row

  all_noted : AllByRecursion IsNoted writes
  all_noted =
      by_recursion IsNoted writes
      (λ k d below. ap (option_map (λ (w : Write). w.row))
      (entry_at-found table_key_cmp_total table_key_of writes k (table_key_of (get_or writes k d)) d is.opened.over_live.by_table_key below (tied_itself table_key_cmp_total (table_key_of (get_or writes k d)))))

  -- a table admits each row that it has under them
  module _ (s : Stored) (there : IsThere lazy.live s) where
    abbrev before : List Entry
    before = entries_of s.table s.rows

    abbrev under : List Entry
    under = entries_under before writes s.table.name

    all_admitted : list_all (λ (e : Entry). is_admitted s.table e.1) under ≡ true
    all_admitted =
        sym (list_all-map (is_admitted s.table) (λ (e : Entry). e.1) under)
        ∙ at_table (λ u. are_admitted (written_to writes u)) lazy.live.tables s there
        (sym (list_all-map are_admitted (written_to writes) lazy.live.tables) ∙ is.opened.over_live.database.rows_admitted)

    -- so each row that is put
    admitted : (w : Write) (row : List Value) → w.table ≡ s.table.name → w.row ≡ Some row → IsNoted w → is_admitted s.table row ≡ true
    admitted w row named put noted = of (entry_at key_cmp key_of_entry under w.key) refl row_there
      where
        row_there : row_under under w.key ≡ Some row
        row_there =
            row_under-entries_under before writes s.table.name w.key is.opened.over_live.by_table_key
            ∙ ap (λ (name : List ℕ). unwrap_or (written_at writes (name, w.key)) (row_under before w.key)) (sym named)
            ∙ ap (λ (o : Option (Option (List Value))). unwrap_or o (row_under before w.key)) noted
            ∙ put

        of : (o : Option Entry) → entry_at key_cmp key_of_entry under w.key ≡ o → option_map (λ (e : Entry). e.1) o ≡ Some row → is_admitted s.table row ≡ true
        of None at e = absurd cc
        of (Some entry) at e =
            ap (is_admitted s.table) (sym (same_Some entry.1 row e))
            ∙ all_found (λ (e : Entry). is_admitted s.table e.1) (has_key key_cmp key_of_entry w.key) under entry all_admitted at

    all_free : AreFree lazy.last writes s.table
    all_free = each_at_table (λ u. AreFree lazy.last writes u.table) lazy.live.tables s there is.opened.free

    all_own : AllByRecursion (WritesOwnKey s.table) writes
    all_own =
        by_recursion (WritesOwnKey s.table) writes
        (each_at_table (Stands writes) lazy.live.tables s there (by_recursion (Stands writes) lazy.live.tables is.opened.over_live.own_keys)).workspace

  -- A WRITE to a table that stands
  module _ (w : Write) (s : Stored) (found : stored_at lazy.live w.table ≡ Some s) where
    named : w.table ≡ s.table.name
    named = sym (name-equal s.table.name w.table (passes_if_found (λ (u : Stored). same_name u.table.name w.table) lazy.live.tables s found))

    there : IsThere lazy.live s
    there = ap (stored_at lazy.live) (sym named) ∙ found

    known : table_at lazy.live w.table ≡ s.table
    known = ap (λ (o : Option Stored). unwrap_or (option_map (λ (t : Stored). t.table) o) no_table) found

    -- is legal
    legal_there : is_free lazy.last s.table w.key ≡ true → IsNoted w → (is_some w.row || is_seen lazy w.table w.key) ≡ true → is_legal_write lazy w ≡ true
    legal_there free noted seen = and_from _ _ (and_from _ _ (ap is_some found) (ap (λ (t : Table). is_free lazy.last t w.key) known ∙ free)) (may w.row refl)
      where
        may : (o : Option (List Value)) → w.row ≡ o → may_be lazy w o ≡ true
        may None removed = sym (ap (λ (o : Option (List Value)). is_some o || is_seen lazy w.table w.key) removed) ∙ seen
        may (Some row) put = ap (λ (t : Table). is_admitted t row) known ∙ admitted s there w row named put noted

    -- and is read back from what is told of it
    read_back : WritesOwnKey s.table w → write_of lazy.live (tell w) ≡ w
    read_back own = of w.row refl
      where
        of : (o : Option (List Value)) → w.row ≡ o → write_by (table_at lazy.live w.table) w.table (row_told w.key o) ≡ record { table = w.table; key = w.key; row = o }
        of None removed = refl
        of (Some row) put =
            ap (λ (key : List Value). record { table = w.table; key = key; row = Some row })
            (ap (λ (t : Table). key_of t row) known ∙ (own row named put).1)

  abbrev stands_there : Write → Type 0
  stands_there w = is_some (stored_at lazy.live w.table) ≡ true

  -- ALL OF THEM
  all_legal : (ws : List Write) → list_all (λ (w : Write). is_some (stored_at lazy.live w.table)) ws ≡ true
      → list_all (λ (w : Write). is_some w.row || is_seen lazy w.table w.key) ws ≡ true
      → ((s : Stored) → IsThere lazy.live s → AreFree lazy.last ws s.table) → AllByRecursion IsNoted ws → list_all (is_legal_write lazy) ws ≡ true
  all_legal [] tables removals free noted = refl
  all_legal (w ∷ ws) tables removals free noted =
      and_from _ _ (of (stored_at lazy.live w.table) refl)
      (all_legal ws (and_parts _ _ tables).1 (and_parts _ _ removals).1 (λ s at. (free s at).1) noted.1)
    where
      of : (o : Option Stored) → stored_at lazy.live w.table ≡ o → is_legal_write lazy w ≡ true
      of None none = absurd (false≢true (sym (ap is_some none) ∙ (and_parts _ _ tables).0))
      of (Some s) found = legal_there w s found ((free s (there w s found)).0 (named w s found)) noted.0 (and_parts _ _ removals).0

  all_read_back : (ws : List Write) → list_all (λ (w : Write). is_some (stored_at lazy.live w.table)) ws ≡ true
      → ((s : Stored) → IsThere lazy.live s → AllByRecursion (WritesOwnKey s.table) ws) → writes_of lazy.live (map tell ws) ≡ ws
  all_read_back [] tables own = refl
  all_read_back (w ∷ ws) tables own =
      ap₂ (λ (v : Write) (vs : List Write). v ∷ vs) (of (stored_at lazy.live w.table) refl)
      (all_read_back ws (and_parts _ _ tables).1 (λ s at. (own s at).1))
    where
      of : (o : Option Stored) → stored_at lazy.live w.table ≡ o → write_of lazy.live (tell w) ≡ w
      of None none = absurd (false≢true (sym (ap is_some none) ∙ (and_parts _ _ tables).0))
      of (Some s) found = read_back w s found (own s (there w s found)).0

  pub each_is_legal : list_all (is_legal_write lazy) writes ≡ true
  each_is_legal = all_legal writes is.tables is.removals all_free all_noted

  pub each_is_read_back : writes_of lazy.live (map tell writes) ≡ writes
  each_is_read_back = all_read_back writes is.tables all_own

-- COMMIT: its record
module _ (lazy : LazyState) (writes : List Write) (is : IsLazy lazy) (opened : IsOpenLazily lazy writes) (some : tells lazy writes ≡ true) where
  abbrev told : List Write
  told = told_of lazy writes

  told_so : IsLegalCommit lazy told
  told_so = told_legal lazy is writes opened

  some_told : nat_le 1 (length told) ≡ true
  some_told = of told refl
    where
      of : (ws : List Write) → told_of lazy writes ≡ ws → nat_le 1 (length ws) ≡ true
      of [] none = absurd (false≢true (sym (tells_nothing lazy writes none) ∙ some))
      of (w ∷ ws) e = grind (arith, nat_tests)

  told_again : writes_of lazy.live (writes_told lazy.live writes) ≡ told
  told_again = each_is_read_back lazy told told_so

  pub commit_recorded : IsRecordOf lazy (Commit (writes_told lazy.live writes)) (after_commit lazy writes)
  commit_recorded = record {
    shallow = tt;
    legal = ap (is_legal_commit lazy) told_again ∙ and_from _ _ (and_from _ _ some_told told_so.opened.over_live.by_table_key) (each_is_legal lazy told told_so);
    made = after_told lazy writes some ∙ sym (by_record lazy writes is opened) ∙ ap (with_commit lazy) (sym told_again);
  }
