-- The states that moves lead to.
use Rattle.std.proofs.Common.{◌≡◌, ℕ, ◌+◌, ◌<◌, true, false, ◌||◌, not, List, [], ◌∷◌, length, Option, None, Some, option_map, refl, sym, ap, ap₂, subst, ◌∙◌, inl, inr, arith}
use Rattle.std.specs.Prelude.{filter_map}
use Rattle.std.specs.List.{list_all}
use Rattle.std.proofs.lemmas.Bool.{and_from, and_parts, or_right, false≢true, not_from_false, cases_Bool}
use Rattle.std.proofs.lemmas.Simd.{map-map}
use Rattle.bf_base.specs.declared.granule.Granule.{Granule}
use Rattle.bf_base.specs.Lists.{has}
use Rattle.bf_base.proofs.Apart.{apart-append, apart-filter, in_order-rises}
use Rattle.bf_tree.specs.Limits.{HasNarrowTables, is_narrow}
use Rattle.bf_sql.specs.Bound.{catalog_of}
use Rattle.bf_sql.specs.Database.{Database, Stored}
use Rattle.bf_sql.specs.migrations.Granules.{granules_of, same_granule}
use Rattle.bf_sql.specs.migrations.Lazy.{DoneGranule, LazyState, Migration, is_done, not_done, with_record_of_moves, with_rows_of}
use Rattle.bf_image.proofs.finding.Found.{same_granule-itself}
use Rattle.bf_image.proofs.items.Lists.{all_kept}
use Rattle.bf_store.specs.Calls.{IsMoveOf, moved_by}
use Rattle.bf_store.specs.declared.moved.Moved.{Moved}
use Rattle.bf_store.specs.Marks.{AreInOrder, granules_in, left_of, marked}
use Rattle.bf_store.specs.Puts.{MayMove, with_rows_in}
use Rattle.bf_store.specs.States.{AreGranules, IsLazy, IsUnderWay, by_place, with_moved}
use Rattle.bf_store.proofs.Granules.{granule_cmp_total}
use Rattle.bf_store.specs.Stores.{IsCounted, IsStore, last_seen, lazy_seen, migration_of}
use Rattle.bf_store.specs.declared.under_way.UnderWay.{UnderWay}
use Rattle.bf_store.proofs.moving.Moving.{passes_if_has}
use Rattle.bf_store.proofs.moving.Ordered.{moves_in_order}

-- those of some granules that have not moved may move
module _ (live : Database) (last : Migration) (way : IsUnderWay live last) (gs : List Granule) (are : AreGranules last gs) where
  abbrev fresh : List Granule
  fresh = not_done last gs

  none_of_done : (ks : List Granule) → list_all (λ k. is_done last k) ks ≡ true → list_all (λ k. not (has same_granule fresh k)) ks ≡ true
  none_of_done [] all = refl
  none_of_done (k ∷ ks) all =
      let moved : is_done last k ≡ true = (and_parts _ _ all).0 in
      let none : has same_granule fresh k ≡ false = elim (cases_Bool (has same_granule fresh k)) [
        | inl there ↦ absurd (false≢true (sym (ap not moved) ∙ passes_if_has (λ g. not (is_done last g)) gs k there))
        | inr none ↦ none
      ] in
      and_from _ _ (not_from_false _ none) (none_of_done ks (and_parts _ _ all).1)

  all_done : (ks : List Granule) → ((g : Granule) → has same_granule ks g ≡ true → is_done last g ≡ true) → list_all (λ k. is_done last k) ks ≡ true
  all_done [] within = refl
  all_done (k ∷ ks) within = and_from _ _ (within k (ap (λ b. b || has same_granule ks k) (same_granule-itself k))) (all_done ks (λ g there. within g (or_right (same_granule g k) (has same_granule ks g) there)))

  pub may_move : MayMove last fresh
  may_move = record {
    each = all_kept (has same_granule (granules_of last.old last.migrate)) (λ g. not (is_done last g)) gs are.each;
    fresh = apart-append same_granule (granules_in last.done) fresh way.once (apart-filter same_granule (λ g. not (is_done last g)) gs are.apart) (none_of_done (granules_in last.done) (all_done (granules_in last.done) (λ g there. there)));
  }

-- the state after a record of moves
recorded : (live : Database) (last : Migration) (records : ℕ) (gs : List Granule) → 0 < length gs
    → (let after : LazyState = with_record_of_moves (record { live = live; last = Some last; records = records }) last gs in record after { last = option_map by_place after.last })
    ≡ record { live = with_rows_in live last gs; last = Some (record last { done = marked last.done gs (records + 1) }); records = records + 1 }
recorded live last records [] some = absurd (omega arith)
recorded live last records (g ∷ gs) some = refl

pub moved_state : (live : Database) (last : Migration) (records : ℕ) (gs : List Granule) → 0 < length (not_done last gs)
    → with_moved (record { live = live; last = Some last; records = records }) gs
    ≡ record { live = with_rows_in live last (not_done last gs); last = Some (record last { done = marked last.done (not_done last gs) (records + 1) }); records = records + 1 }
moved_state live last records gs some = recorded live last records (not_done last gs) some

-- and where none moves
unrecorded : (live : Database) (last : Migration) (records : ℕ) (gs : List Granule) → AreInOrder last.done → gs ≡ []
    → (let after : LazyState = with_record_of_moves (record { live = live; last = Some last; records = records }) last gs in record after { last = option_map by_place after.last })
    ≡ record { live = live; last = Some last; records = records }
unrecorded live last records [] sorted none = λ i. record { live = live; last = Some (record last { done = in_order-rises granule_cmp_total (λ (d : DoneGranule). d.granule) last.done sorted i }); records = records }
unrecorded live last records (g ∷ gs) sorted none = absurd cc

pub unmoved_state : (live : Database) (last : Migration) (records : ℕ) (gs : List Granule) → AreInOrder last.done → not_done last gs ≡ []
    → with_moved (record { live = live; last = Some last; records = records }) gs ≡ record { live = live; last = Some last; records = records }
unmoved_state live last records gs sorted none = unrecorded live last records (not_done last gs) sorted none

-- the tables stay what they are
pub narrow_then : (live : Database) (last : Migration) (gs : List Granule) → HasNarrowTables (catalog_of live) → HasNarrowTables (catalog_of (with_rows_in live last gs))
narrow_then live last gs narrow = ap (list_all is_narrow) (map-map (λ (s : Stored). s.table) (with_rows_of last gs) live.tables) ∙ narrow

-- a store after a record of moves
module _ (live after : Database) (u v : UnderWay) (records number : ℕ) (gs moving : List Granule)
    (fresh : moving ≡ left_of u.done gs) (some : 0 < length moving) (n : number ≡ records + 1)
    (its_live : after ≡ with_rows_in live (last_seen u) moving) (pass : v.pass ≡ u.pass) (done : v.done ≡ marked u.done moving number) where
  its_last : last_seen v ≡ record (last_seen u) { done = marked u.done (left_of u.done gs) (records + 1) }
  its_last i = migration_of (pass i).value ((done ∙ ap₂ (marked u.done) fresh n) i)

  pub state_then : lazy_seen after (Some v) number ≡ with_moved (lazy_seen live (Some u) records) gs
  state_then =
      let here : after ≡ with_rows_in live (last_seen u) (left_of u.done gs) = its_live ∙ ap (with_rows_in live (last_seen u)) fresh in
      let state : lazy_seen after (Some v) number ≡ record { live = with_rows_in live (last_seen u) (left_of u.done gs); last = Some (record (last_seen u) { done = marked u.done (left_of u.done gs) (records + 1) }); records = records + 1 } =
      λ i. record { live = here i; last = Some (its_last i); records = n i } in
      let more : 0 < length (left_of u.done gs) = subst (λ (hs : List Granule). 0 < length hs) fresh some in
      state ∙ sym (moved_state live (last_seen u) records gs more)

  pub store_then : IsStore live (Some u) records → AreGranules (last_seen u) gs → IsCounted v → IsStore after (Some v) number
  store_then is are counted = record {
    lazy_state = subst IsLazy (sym state_then) (moves_in_order (lazy_seen live (Some u) records) gs is.lazy_state are).seen_as.lazy_state;
    narrow = subst (λ (db : Database). HasNarrowTables (catalog_of db)) (sym its_live) (narrow_then live (last_seen u) moving is.narrow);
    counted = counted;
  }

pub nothing_if : (gs : List Granule) → length gs ≡ 0 → gs ≡ []
nothing_if [] none = refl
nothing_if (g ∷ gs) none = absurd (omega (arith, none))

-- before any migration nothing moves
told_of : Option Migration → Granule → Option (Granule × ℕ)
told_of last g = option_map (λ n. (g, n)) (moved_by last g)

none_told : (gs : List Granule) → filter_map (told_of None) gs ≡ []
unfolding told_of
none_told [] = refl
none_told (g ∷ gs) = none_told gs

pub none_moved : (live : Database) (records : ℕ) (gs : List Granule) (told : Moved) → told.fresh.items ≡ [] → told.already.items ≡ []
    → IsMoveOf (lazy_seen live None records) (lazy_seen live None records) gs told
unfolding told_of
none_moved live records gs told fresh already = record { state = refl; fresh = fresh; already = already ∙ sym (none_told gs) }
