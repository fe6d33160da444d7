-- A transaction that is open stays open when granules move.
use Rattle.std.proofs.Common.{◌≡◌, ℕ, true, false, not, List, [], ◌∷◌, map, Some, option_map, refl, sym, ap, subst, ◌∙◌}
use Rattle.std.specs.List.{list_all, AllByRecursion}
use Rattle.std.proofs.lemmas.Bool.{not_from_false, not-true}
use Rattle.std.proofs.lemmas.Simd.{map-map}
use Rattle.bf_base.specs.declared.granule.Granule.{Granule}
use Rattle.bf_base.specs.declared.value.Value.{Value}
use Rattle.bf_base.specs.Lists.{same_key, has}
use Rattle.bf_base.specs.Tables.{key_of}
use Rattle.bf_base.proofs.Apart.{apart_left}
use Rattle.bf_base.proofs.Parts.{map_each}
use Rattle.bf_txn.specs.declared.write.Write.{Write}
use Rattle.bf_txn.specs.Writes.{writes_to}
use Rattle.bf_sql.specs.Database.{Database, Stored, IsDatabase, stored_at}
use Rattle.bf_sql.specs.migrations.Granules.{same_granule}
use Rattle.bf_sql.specs.migrations.Lazy.{Migration, LazyState, pending, due, is_early, is_on_time, with_rows_of}
use Rattle.bf_live.specs.Meanings.{entries_of}
use Rattle.bf_live.proofs.querying.OwnKeys.{own_keys, by_recursion, each, weakened}
use Rattle.bf_image.proofs.items.Lists.{all_so}
use Rattle.bf_live.specs.Live.{committed, written_to}
use Rattle.bf_live.proofs.statements.Named.{IsThere, all_there}
use Rattle.bf_live.proofs.statements.Seeing.{Stands, begun}
use Rattle.bf_store.specs.States.{IsUnderWay, IsLazy, IsOpenLazily, AreFree, is_free}
use Rattle.bf_store.proofs.coming.Found.{stored_at-map, each_at_table}
use Rattle.bf_store.proofs.moving.Moving.{own, keys, on_time, keyed, both_apart, neither, last_then, live_then, database_after_move}
use Rattle.bf_store.proofs.seeing.Committing.{commit_keeps, free_writes}
use Rattle.bf_store.proofs.seeing.Placing.{written_around}

module _ (live : Database) (last : Migration) (g : Granule) (number : ℕ) (is : IsDatabase live) (way : IsUnderWay live last)
    (valid : list_all (is_on_time (Some last)) live.tables ≡ true) (waits : has same_granule (pending last) g ≡ true)
    (writes : List Write) (opened : IsOpenLazily (record { live = live; last = Some last; records = 0 }) writes) where
  abbrev lazy : LazyState
  lazy = record { live = live; last = Some last; records = 0 }

  lazily : IsLazy lazy
  lazily = record { live = is; last = way; valid = valid }

  abbrev written_live : Database
  written_live = committed live writes

  -- what the transaction has written is a lazy state, in which the granule may move as well
  written_lazily : IsLazy (record { live = written_live; last = Some last; records = 0 })
  written_lazily = commit_keeps lazy lazily writes opened

  module _ (s : Stored) (there : IsThere live s) where
    abbrev own_rows : List (List Value)
    own_rows = own live last g number is way valid waits s there

    -- no key of the granule's rows is written
    off : (k : List Value) → has same_key (map (key_of s.table) (due (Some last) s.table.name)) k ≡ false
        → has same_key (map (key_of s.table) own_rows) k ≡ false
    off k e = (neither live last g number is way valid waits s there k e).0

    rows_off : list_all (λ row. not (has same_key (map (key_of s.table) own_rows) (key_of s.table row))) s.rows ≡ true
    rows_off = all_so (λ row. not (is_early (Some last) s.table row)) (λ row. not (has same_key (map (key_of s.table) own_rows) (key_of s.table row)))
        (λ row e. not_from_false _ (off (key_of s.table row) (not-true _ e))) s.rows (on_time live last g number is way valid waits s there)

    free_here : AreFree (Some last) writes s.table
    free_here = each_at_table (λ u. AreFree (Some last) writes u.table) live.tables s there opened.free

    writes_off : AllByRecursion (λ w. has same_key (map (key_of s.table) own_rows) w.key ≡ false) (writes_to s.table.name writes)
    writes_off = weakened (λ (w : Write). has same_key (map (key_of s.table) (due (Some last) s.table.name)) w.key ≡ false) (λ w. has same_key (map (key_of s.table) own_rows) w.key ≡ false) (λ w. off w.key) (writes_to s.table.name writes) (free_writes (Some last) s.table writes free_here)

    stands : Stands writes s
    stands = each_at_table (Stands writes) live.tables s there (by_recursion (Stands writes) live.tables opened.over_live.own_keys)

    -- the granule's rows may come before the writes or behind them
    either_order : with_rows_of last (g ∷ []) (written_to writes s) ≡ written_to writes (with_rows_of last (g ∷ []) s)
    either_order =
        let rows = written_around s.table s.rows own_rows (writes_to s.table.name writes) (keyed live last g number is way valid waits s there) rows_off
        (apart_left same_key (keys live last g number is way valid waits s there own_rows) _ (both_apart live last g number is way valid waits s there)) writes_off (own_keys s.table (entries_of s.table s.rows) writes stands) in
        λ i. record { table = s.table; rows = sym rows i }

    free_then : AreFree (Some (last_then live last g number is way valid waits)) writes s.table
    free_then = weakened (λ (w : Write). w.table ≡ s.table.name → is_free (Some last) s.table w.key ≡ true) (λ w. w.table ≡ s.table.name → is_free (Some (last_then live last g number is way valid waits)) s.table w.key ≡ true)
        (λ w free same. not_from_false _ (neither live last g number is way valid waits s there w.key (not-true _ (free same))).1) writes free_here

    -- its rows stand under their own keys
    stands_then : Stands writes (with_rows_of last (g ∷ []) s)
    stands_then =
        let then_live = live_then live last g number is way valid waits in
        let found : stored_at then_live s.table.name ≡ Some (with_rows_of last (g ∷ []) s) = stored_at-map live (with_rows_of last (g ∷ [])) (λ s. refl) s.table.name ∙ ap (option_map (with_rows_of last (g ∷ []))) there in
        let first = begun then_live (database_after_move live last g number is way valid waits) in
        let heap = each_at_table (Stands []) then_live.tables (with_rows_of last (g ∷ []) s) found (by_recursion (Stands []) then_live.tables first.own_keys) in
        record { heap = heap.heap; workspace = stands.workspace }

  found_all : AllByRecursion (IsThere live) live.tables
  found_all = all_there live is

  same_tables : map (with_rows_of last (g ∷ [])) (map (written_to writes) live.tables) ≡ map (written_to writes) (map (with_rows_of last (g ∷ [])) live.tables)
  same_tables =
      map-map (with_rows_of last (g ∷ [])) (written_to writes) live.tables
      ∙ map_each (IsThere live) (λ s. with_rows_of last (g ∷ []) (written_to writes s)) (λ s. written_to writes (with_rows_of last (g ∷ []) s)) either_order live.tables found_all
      ∙ sym (map-map (written_to writes) (with_rows_of last (g ∷ [])) live.tables)

  each_moved : (P : Stored → Type 0) → ((s : Stored) → IsThere live s → P (with_rows_of last (g ∷ []) s)) → (ss : List Stored)
      → AllByRecursion (IsThere live) ss → AllByRecursion P (map (with_rows_of last (g ∷ [])) ss)
  each_moved P one [] all = tt
  each_moved P one (s ∷ ss) all = (one s all.0, each_moved P one ss all.1)

  pub open_after_move : IsOpenLazily (record { live = live_then live last g number is way valid waits; last = Some (last_then live last g number is way valid waits); records = 0 }) writes
  open_after_move = record {
    over_live = record {
      database = subst (λ tables. IsDatabase (record live { tables = tables })) same_tables
          (database_after_move written_live last g number written_lazily.live written_lazily.last written_lazily.valid waits);
      by_table_key = opened.over_live.by_table_key;
      own_keys = each (Stands writes) (map (with_rows_of last (g ∷ [])) live.tables) (each_moved (Stands writes) stands_then live.tables found_all);
    };
    free = each_moved (λ s. AreFree (Some (last_then live last g number is way valid waits)) writes s.table) free_then live.tables found_all;
  }
