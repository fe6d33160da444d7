-- Writes to free keys leave a lazy state lazy, and are seen as the same writes to what is seen.
use Rattle.std.proofs.Common.{◌≡◌, ℕ, true, false, not, List, [], ◌∷◌, map, Option, Some, None, option_map, refl, sym, ap, ◌∙◌, inl, inr}
use Rattle.std.specs.List.{AllByRecursion}
use Rattle.std.proofs.lemmas.Bool.{not-true, cases_Bool}
use Rattle.std.proofs.lemmas.Simd.{map-map}
use Rattle.std.proofs.lemmas.List.Folds.{list_all-map}
use Rattle.bf_base.specs.declared.table.Table.{Table}
use Rattle.bf_base.specs.Lists.{same_name, same_key, has, with_placed}
use Rattle.bf_base.specs.Tables.{key_of}
use Rattle.bf_base.specs.Values.{key_cmp}
use Rattle.bf_base.proofs.Apart.{are_apart}
use Rattle.bf_base.proofs.Parts.{filter_all, map_each, list_all_each}
use Rattle.bf_txn.specs.declared.write.Write.{Write}
use Rattle.bf_txn.specs.Writes.{writes_to}
use Rattle.bf_sql.specs.Database.{Database, Stored, stored_at}
use Rattle.bf_sql.specs.migrations.Lazy.{Migration, LazyState, due, is_early, is_on_time, seen, view_of}
use Rattle.bf_sql.specs.migrations.Targets.{target_table}
use Rattle.bf_live.specs.Meanings.{entries_of}
use Rattle.bf_live.specs.Merged.{entries_under, rows_under, StandUnderOwnKeys}
use Rattle.bf_live.proofs.querying.OwnKeys.{OwnKeys, own_keys, by_recursion}
use Rattle.bf_image.specs.Sources.{table_under}
use Rattle.bf_image.proofs.items.Names.{name-equal}
use Rattle.bf_live.specs.Live.{committed, written_to}
use Rattle.bf_live.proofs.statements.Named.{IsThere, all_there}
use Rattle.bf_store.specs.States.{IsUnderWayIfAny, IsLazy, IsSeenAs, AreFree, IsOpenLazily, under}
use Rattle.bf_store.proofs.coming.Due.{due_apart_if_any}
use Rattle.bf_store.proofs.coming.Found.{stored_at-map, each_at_table}
use Rattle.bf_store.proofs.seeing.Placing.{written_around, written_on_time}
use Rattle.bf_store.proofs.seeing.Viewing.{keyed, kept_on_time, rows_seen}

-- a table that keeps its name, columns and key under a map of the tables
same_table_there : (db : Database) (f : Stored → Stored) → ((s : Stored) → (f s).table ≡ s.table) → (name : List ℕ)
    → table_under (record db { tables = map f db.tables }) name ≡ table_under db name
same_table_there db f same name = ap (option_map (λ s. s.table)) (stored_at-map db f same name) ∙ on (stored_at db name)
  where
    on : (o : Option Stored) → option_map (λ s. s.table) (option_map f o) ≡ option_map (λ s. s.table) o
    on None = refl
    on (Some s) = ap Some (same s)

pub weakened : {X : Type 0} (P Q : X → Type 0) → ((x : X) → P x → Q x) → (xs : List X) → AllByRecursion P xs → AllByRecursion Q xs
weakened P Q one [] all = tt
weakened P Q one (x ∷ xs) all = (one x all.0, weakened P Q one xs all.1)

-- a migration stays under way where the tables stay what they are
pub still_under_way : (db : Database) (f : Stored → Stored) → ((s : Stored) → (f s).table ≡ s.table) → (last : Option Migration)
    → IsUnderWayIfAny db last → IsUnderWayIfAny (record db { tables = map f db.tables }) last
still_under_way db f same None way = tt
still_under_way db f same (Some last) way = record {
  lawful = way.lawful;
  targets = weakened (λ t. table_under db t.name ≡ Some (target_table last.old t)) (λ t. table_under (record db { tables = map f db.tables }) t.name ≡ Some (target_table last.old t)) (λ t e. same_table_there db f same t.name ∙ e) last.migrate.targets way.targets;
  granules = way.granules;
  once = way.once;
}

-- the writes to a table, of those that are free
pub free_writes : (last : Option Migration) (table : Table) (writes : List Write) → AreFree last writes table
    → AllByRecursion (λ w. has same_key (map (key_of table) (due last table.name)) w.key ≡ false) (writes_to table.name writes)
free_writes last table [] free = tt
free_writes last table (w ∷ writes) free = elim (cases_Bool (same_name w.table table.name)) [
  | inl same ↦ rw same (not-true _ (free.0 (name-equal w.table table.name same)), free_writes last table writes free.1)
  | inr other ↦ rw other (free_writes last table writes free.1)
]

module _ (lazy : LazyState) (is : IsLazy lazy) (writes : List Write) (opened : IsOpenLazily lazy writes) where
  module _ (s : Stored) (there : IsThere lazy.live s) where
    apart : are_apart same_key (map (key_of s.table) (due lazy.last s.table.name)) ≡ true
    apart = due_apart_if_any lazy.live lazy.last is.last s there

    free : AllByRecursion (λ w. has same_key (map (key_of s.table) (due lazy.last s.table.name)) w.key ≡ false) (writes_to s.table.name writes)
    free = free_writes lazy.last s.table writes (each_at_table (λ u. AreFree lazy.last writes u.table) lazy.live.tables s there opened.free)

    own : OwnKeys s.table (entries_under (entries_of s.table s.rows) writes s.table.name)
    own = own_keys s.table (entries_of s.table s.rows) writes (each_at_table (λ u. StandUnderOwnKeys u.table (entries_of u.table u.rows) writes) lazy.live.tables s there (by_recursion (λ u. StandUnderOwnKeys u.table (entries_of u.table u.rows) writes) lazy.live.tables opened.over_live.own_keys))

    then_on_time : is_on_time lazy.last (written_to writes s) ≡ true
    then_on_time = written_on_time s.table s.rows (due lazy.last s.table.name) (writes_to s.table.name writes) (keyed lazy is s there) (kept_on_time lazy is s there) apart free own

    seen_written : seen lazy.last (written_to writes s) ≡ written_to writes (seen lazy.last s)
    seen_written =
        let kept = filter_all (λ row. not (is_early lazy.last s.table row)) (written_to writes s).rows then_on_time in
        let rows : (seen lazy.last (written_to writes s)).rows ≡ (written_to writes (seen lazy.last s)).rows =
        ap (λ rows. with_placed key_cmp (key_of s.table) rows (due lazy.last s.table.name)) kept
        ∙ sym (written_around s.table s.rows (due lazy.last s.table.name) (writes_to s.table.name writes) (keyed lazy is s there) (kept_on_time lazy is s there) apart free own)
        ∙ ap (λ rows. rows_under (entries_of s.table rows) writes s.table.name) (sym (rows_seen lazy is s there)) in
        λ i. record { table = s.table; rows = rows i }

  found : AllByRecursion (IsThere lazy.live) lazy.live.tables
  found = all_there lazy.live is.live

  -- COMMIT: it commutes with the view
  pub commit_is_seen : view_of (under lazy writes) ≡ committed (view_of lazy) writes
  commit_is_seen =
      let tables = map-map (seen lazy.last) (written_to writes) lazy.live.tables
      ∙ map_each (IsThere lazy.live) (λ s. seen lazy.last (written_to writes s)) (λ s. written_to writes (seen lazy.last s)) seen_written lazy.live.tables found
      ∙ sym (map-map (written_to writes) (seen lazy.last) lazy.live.tables) in
      λ i. record { number = lazy.live.number; tables = tables i; indexes = lazy.live.indexes }

  -- and leaves the state lazy
  pub commit_keeps : IsLazy (under lazy writes)
  commit_keeps = record {
    live = opened.over_live.database;
    last = still_under_way lazy.live (written_to writes) (λ s. refl) lazy.last is.last;
    valid = list_all-map (is_on_time lazy.last) (written_to writes) lazy.live.tables ∙ list_all_each (IsThere lazy.live) (λ s. is_on_time lazy.last (written_to writes s)) then_on_time lazy.live.tables found;
  }

  pub commits : IsSeenAs (committed (view_of lazy) writes) (under lazy writes)
  commits = record { lazy_state = commit_keeps; view = commit_is_seen }
