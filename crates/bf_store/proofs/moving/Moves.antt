-- Several granules move by one record.
use Rattle.std.proofs.Common.{◌≡◌, ℕ, ◌+◌, true, false, not, cond, List, [], ◌∷◌, ◌++◌, map, Option, Some, None, refl, sym, ap, subst, ◌∙◌, append_assoc}
use Rattle.std.specs.List.{list_all}
use Rattle.std.proofs.lemmas.Bool.{and_parts, and_from, or_parts, not-true, not_from_false}
use Rattle.std.proofs.lemmas.Grind.{fold-append}
use Rattle.std.proofs.lemmas.List.{append-nil}
use Rattle.std.proofs.lemmas.Simd.{map-map}
use Rattle.bf_base.specs.declared.granule.Granule.{Granule}
use Rattle.bf_base.specs.declared.value.Value.{Value}
use Rattle.bf_base.specs.Lists.{has, with_placed}
use Rattle.bf_base.specs.Tables.{key_of}
use Rattle.bf_base.specs.Values.{key_cmp}
use Rattle.bf_base.proofs.Apart.{are_apart, apart-filter}
use Rattle.bf_base.proofs.Parts.{map_itself}
use Rattle.bf_txn.specs.declared.write.Write.{Write}
use Rattle.bf_sql.specs.Database.{Database, Stored, IsDatabase}
use Rattle.bf_sql.specs.migrations.Granules.{granules_of, part_in, same_granule}
use Rattle.bf_sql.specs.migrations.Lazy.{DoneGranule, Migration, LazyState, is_done, not_done, pending, rows_from, is_on_time, seen, with_rows_of, done_by, with_record_of_moves, moved}
use Rattle.bf_store.specs.States.{IsUnderWay, IsUnderWayIfAny, IsLazy, IsOpenLazily, IsQuiet, AreGranulesIfAny}
use Rattle.bf_store.proofs.coming.Due.{with_done, pending_next}
use Rattle.bf_store.proofs.coming.Parts.{granules_apart}
use Rattle.bf_store.proofs.moving.Moving.{has_if_passes, live_then, last_then, view_after_move, valid_after_move, under_way_after_move, database_after_move}
use Rattle.bf_store.proofs.moving.Opened.{open_after_move}

abbrev at_no_record : Database → Migration → LazyState
at_no_record live last = record { live = live; last = Some last; records = 0 }

-- what is left after a move that nobody sees
pub record HasMoved (live : Database) (last : Migration) (tables : List Stored) (done : List DoneGranule) : Type 0 where
  pub database : IsDatabase (record live { tables = tables })
  pub way : IsUnderWay (record live { tables = tables }) (record last { done = done })
  pub valid : list_all (is_on_time (Some (record last { done = done }))) tables ≡ true
  pub view : map (seen (Some (record last { done = done }))) tables ≡ map (seen (Some last)) live.tables
  pub opened : (writes : List Write) → IsOpenLazily (at_no_record live last) writes
      → IsOpenLazily (at_no_record (record live { tables = tables }) (record last { done = done })) writes

with_none : (last : Migration) (s : Stored) → with_rows_of last [] s ≡ s
with_none last s = refl

-- the rows of a granule and then those of others
with_more : (last : Migration) (g : Granule) (gs : List Granule) (s : Stored)
    → with_rows_of last gs (with_rows_of last (g ∷ []) s) ≡ with_rows_of last (g ∷ gs) s
with_more last g gs s =
    let place = λ (rows more : List (List Value)). with_placed key_cmp (key_of s.table) rows more in
    let own = part_in last.old last.migrate s.table.name g in
    let others = rows_from (Some last) gs s.table.name in
    let rows : place (place s.rows (own ++ [])) others ≡ place s.rows (own ++ others) =
    ap (λ rs. place (place s.rows rs) others) (append-nil own)
    ∙ sym (fold-append (λ (rows : List (List Value)) (row : List Value). place rows (row ∷ [])) s.rows own others) in
    λ i. record { table = s.table; rows = rows i }

pub moves_by : (number : ℕ) (gs : List Granule) (live : Database) (last : Migration) → IsDatabase live → IsUnderWay live last → list_all (is_on_time (Some last)) live.tables ≡ true
    → list_all (has same_granule (pending last)) gs ≡ true → are_apart same_granule gs ≡ true
    → HasMoved live last (map (with_rows_of last gs) live.tables) (last.done ++ map (done_by number) gs)
moves_by number [] live last is way valid wait apart =
    let tables : live.tables ≡ map (with_rows_of last []) live.tables = sym (map_itself (with_rows_of last []) (with_none last) live.tables) in
    let done : last.done ≡ last.done ++ [] = sym (append-nil last.done) in
    let here : HasMoved live last live.tables last.done = record { database = is; way = way; valid = valid; view = refl; opened = λ writes o. o } in
    subst (λ ds. HasMoved live last (map (with_rows_of last []) live.tables) ds) done (subst (λ ts. HasMoved live last ts last.done) tables here)
moves_by number (g ∷ gs) live last is way valid wait apart =
    let first = (and_parts _ _ wait).0 in
    let live' = live_then live last g number is way valid first in
    let last' = last_then live last g number is way valid first in
    let rest = moves_by number gs live' last' (database_after_move live last g number is way valid first) (under_way_after_move live last g number is way valid first) (valid_after_move live last g number is way valid first)
    (still_wait gs (and_parts _ _ wait).1 (not-true _ (and_parts _ _ apart).0)) (and_parts _ _ apart).1 in
    let tables : map (with_rows_of last gs) (map (with_rows_of last (g ∷ [])) live.tables) ≡ map (with_rows_of last (g ∷ gs)) live.tables =
    map-map (with_rows_of last gs) (with_rows_of last (g ∷ [])) live.tables ∙ (λ i. map (λ s. with_more last g gs s i) live.tables) in
    let done : (last.done ++ done_by number g ∷ []) ++ map (done_by number) gs ≡ last.done ++ map (done_by number) (g ∷ gs) = append_assoc last.done (done_by number g ∷ []) (map (done_by number) gs) in
    let here : HasMoved live last (map (with_rows_of last gs) (map (with_rows_of last (g ∷ [])) live.tables)) ((last.done ++ done_by number g ∷ []) ++ map (done_by number) gs) = record {
      database = rest.database;
      way = rest.way;
      valid = rest.valid;
      view = rest.view ∙ view_after_move live last g number is way valid first;
      opened = λ writes o. rest.opened writes (open_after_move live last g number is way valid first writes o);
    } in
    subst (λ ds. HasMoved live last (map (with_rows_of last (g ∷ gs)) live.tables) ds) done
    (subst (λ ts. HasMoved live last ts ((last.done ++ done_by number g ∷ []) ++ map (done_by number) gs)) tables here)
  where
    -- the others wait still
    still_wait : (hs : List Granule) → list_all (has same_granule (pending last)) hs ≡ true → has same_granule hs g ≡ false
        → list_all (has same_granule (pending (with_done last g number))) hs ≡ true
    still_wait [] wait other = refl
    still_wait (h ∷ hs) wait' other =
        let other' = or_parts _ _ other in
        let left = has_if_passes (λ k. not (same_granule g k)) (pending last) h (and_parts _ _ wait').0 (not_from_false _ other'.0) in
        let next = pending_next last g number (and_parts _ _ wait).0 (granules_apart last.old last.migrate) in
        and_from _ _ (ap (λ ks. has same_granule ks h) (sym next) ∙ left) (still_wait hs (and_parts _ _ wait').1 other'.1)

-- those that are not done wait
fresh_wait : (last : Migration) (gs : List Granule) → list_all (has same_granule (granules_of last.old last.migrate)) gs ≡ true
    → list_all (has same_granule (pending last)) (not_done last gs) ≡ true
fresh_wait last [] all = refl
fresh_wait last (g ∷ gs) all = elim (is_done last g) as (λ b. is_done last g ≡ b → list_all (has same_granule (pending last)) (cond (not b) (g ∷ not_done last gs) (not_done last gs)) ≡ true) [
  | true ↦ λ e. fresh_wait last gs (and_parts _ _ all).1
  | false ↦ λ e. and_from _ _ (has_if_passes (λ h. not (is_done last h)) (granules_of last.old last.migrate) g (and_parts _ _ all).0 (not_from_false _ e)) (fresh_wait last gs (and_parts _ _ all).1)
] refl

-- a record of moves
recorded : (live : Database) (last : Migration) (records : ℕ) (gs : List Granule) → IsDatabase live → IsUnderWay live last → list_all (is_on_time (Some last)) live.tables ≡ true
    → list_all (has same_granule (pending last)) gs ≡ true → are_apart same_granule gs ≡ true
    → IsQuiet (record { live = live; last = Some last; records = records }) (with_record_of_moves (record { live = live; last = Some last; records = records }) last gs)
recorded live last records [] is way valid wait apart = record { seen_as = record { lazy_state = record { live = is; last = way; valid = valid }; view = refl }; opened = λ writes o. o }
recorded live last records (g ∷ gs) is way valid wait apart =
    let after = moves_by (records + 1) (g ∷ gs) live last is way valid wait apart in
    record {
      seen_as = record {
        lazy_state = record { live = after.database; last = after.way; valid = after.valid };
        view = λ i. record { number = live.number; tables = after.view i; indexes = live.indexes };
      };
      opened = λ writes o.
          let o' = after.opened writes (record { over_live = o.over_live; free = o.free }) in
          record { over_live = o'.over_live; free = o'.free };
    }

-- MOVE: granules of the migration, which differ, move: what is seen stays, and each transaction that is open stays open
pub moves : (lazy : LazyState) (gs : List Granule) → IsLazy lazy → AreGranulesIfAny lazy.last gs → IsQuiet lazy (moved lazy gs)
moves lazy gs is are = on lazy.last is.last is.valid are
  where
    on : (last : Option Migration) → IsUnderWayIfAny lazy.live last → list_all (is_on_time last) lazy.live.tables ≡ true → AreGranulesIfAny last gs
        → IsQuiet (record lazy { last = last }) (moved (record lazy { last = last }) gs)
    on None way valid are = record { seen_as = record { lazy_state = record { live = is.live; last = tt; valid = valid }; view = refl }; opened = λ writes o. o }
    on (Some last) way valid are =
        recorded lazy.live last lazy.records (not_done last gs) is.live way valid (fresh_wait last gs are.each) (apart-filter same_granule (λ g. not (is_done last g)) gs are.apart)
