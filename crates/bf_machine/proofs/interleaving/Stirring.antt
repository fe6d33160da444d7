-- Granules move: nobody sees it, and what open groups are to leave can be put still.
use Rattle.std.proofs.Common.{◌≡◌, true, false, not, cond, List, [], ◌∷◌, Option, Some, None, option_map, refl, sym, ap, subst, ◌∙◌}
use Rattle.std.specs.List.{list_all}
use Rattle.std.proofs.lemmas.Bool.{and_parts, false≢true, not_from_false}
use Rattle.boxcar.specs.Table.{Where}
use Rattle.bf_base.specs.declared.granule.Granule.{Granule}
use Rattle.bf_base.specs.Lists.{has}
use Rattle.bf_image.specs.declared.migration.Migration.{Migration as Kept}
use Rattle.bf_sql.specs.Database.{Database}
use Rattle.bf_sql.specs.migrations.Granules.{granules_of, same_granule}
use Rattle.bf_sql.specs.migrations.Lazy.{DoneGranule, LazyState, Migration, is_done, not_done, pending, pending_of, with_record_of_moves}
use Rattle.bf_store.specs.States.{AreGranulesIfAny, IsLazy, IsSeenAs, by_place, with_moved}
use Rattle.bf_store.specs.Stores.{IsByPass, migration_of}
use Rattle.bf_store.proofs.moving.Moving.{has_if_passes}
use Rattle.bf_store.proofs.moving.Ordered.{moves_in_order, same_done}
use Rattle.bf_store.proofs.moving.Unordered.{same_pending}
use Rattle.bf_machine.specs.interleaving.Events.{Moves}
use Rattle.bf_machine.specs.interleaving.Groups.{Pending, Rows, NewTable, NewIndex, Flip, Nothing}
use Rattle.bf_machine.specs.interleaving.Kept.{CanBePutInto, IsKept, IsReadyToFlip}
use Rattle.bf_machine.specs.interleaving.Machines.{Machine}
use Rattle.bf_machine.proofs.interleaving.Settled.{narrow_live, narrow_view}
use Rattle.bf_machine.proofs.interleaving.Storing.{rest_of_kept, stored_kept}

-- the migration is the one of the pass still
as_pass : (last : Migration) (kept : Kept) (done : List DoneGranule) → last ≡ migration_of kept last.done → record last { done = done } ≡ migration_of kept done
as_pass last kept done same = ap (λ (l : Migration). record l { done = done }) same

by_pass_still : (lazy : LazyState) (granules : List Granule) (pass : Option (Where Kept)) → IsByPass lazy.last pass → IsByPass (with_moved lazy granules).last pass
by_pass_still lazy granules pass by = on lazy.last pass by
  where
    recorded : (last : Migration) (pass : Where Kept) (gs : List Granule) → last ≡ migration_of pass.value last.done
        → IsByPass (option_map by_place (with_record_of_moves (record lazy { last = Some last }) last gs).last) (Some pass)
    recorded last pass [] same = as_pass last pass.value _ same
    recorded last pass (g ∷ gs) same = as_pass last pass.value _ same

    on : (last : Option Migration) (pass : Option (Where Kept)) → IsByPass last pass → IsByPass (with_moved (record lazy { last = last }) granules).last pass
    on None None by = tt
    on None (Some pass) by = absurd by
    on (Some last) None by = absurd by
    on (Some last) (Some pass) by = recorded last pass (not_done last granules) by

-- WHERE ALL HAVE MOVED nothing moves
none_fresh : (last : Migration) (gs : List Granule) → pending last ≡ [] → list_all (has same_granule (granules_of last.old last.migrate)) gs ≡ true → not_done last gs ≡ []
none_fresh last [] none all = refl
none_fresh last (g ∷ gs) none all =
    let parts = and_parts (has same_granule (granules_of last.old last.migrate) g) (list_all (has same_granule (granules_of last.old last.migrate)) gs) all in
    let rest = none_fresh last gs none parts.1 in
    elim (is_done last g) as (λ b. is_done last g ≡ b → cond (not b) (g ∷ not_done last gs) (not_done last gs) ≡ []) [
      | true ↦ λ done. rest
      | false ↦ λ fresh.
          let waits : has same_granule (pending last) g ≡ true = has_if_passes (λ h. not (is_done last h)) (granules_of last.old last.migrate) g parts.0 (not_from_false _ fresh) in
          absurd (false≢true (ap (λ (hs : List Granule). has same_granule hs g) (sym none) ∙ waits))
    ] refl

-- so a flip may come still
record StaysWhole (lazy after : LazyState) : Type 0 where
  live : lazy.live ≡ after.live
  complete : pending_of after.last ≡ []

stays_whole : (lazy : LazyState) (granules : List Granule) → AreGranulesIfAny lazy.last granules → pending_of lazy.last ≡ [] → StaysWhole lazy (with_moved lazy granules)
stays_whole lazy granules are none = on lazy.last are none
  where
    nothing : (last : Migration) (gs : List Granule) → gs ≡ [] → pending last ≡ []
        → StaysWhole (record lazy { last = Some last })
        (let after = with_record_of_moves (record lazy { last = Some last }) last gs in
        record after { last = option_map by_place after.last })
    nothing last [] empty none = record { live = refl; complete = same_pending last (by_place last).done (same_done last) ∙ none }
    nothing last (g ∷ gs) empty none = absurd cc

    on : (last : Option Migration) → AreGranulesIfAny last granules → pending_of last ≡ [] → StaysWhole (record lazy { last = last }) (with_moved (record lazy { last = last }) granules)
    on None are none = record { live = refl; complete = refl }
    on (Some last) are none = nothing last (not_done last granules) (none_fresh last granules none are.each) none

module _ (lazy : LazyState) (is : IsLazy lazy) (granules : List Granule) (are : AreGranulesIfAny lazy.last granules) where
  abbrev after : LazyState
  after = with_moved lazy granules

  still_puts : (p : Pending) → CanBePutInto lazy p → CanBePutInto after p
  still_puts (Rows writes) puts = (moves_in_order lazy granules is are).opened writes puts
  still_puts (NewTable table) puts = tt
  still_puts (NewIndex index) puts = tt
  still_puts (Flip plan) puts =
      let whole = stays_whole lazy granules are puts.may.complete in
      let here : LazyState = record after { live = lazy.live } in
      let same : here ≡ after = ap (λ (live : Database). record after { live = live }) whole.live in
      subst (λ (state : LazyState). IsReadyToFlip state plan) same
      (record { may = record { complete = whole.complete; unrefused = puts.may.unrefused }; planned = puts.planned; narrow = puts.narrow })
  still_puts Nothing puts = tt

-- MOVES KEEP ALL
pub moves_keep_all : (start : Database) (m : Machine) (kept : IsKept start m) (granules : List Granule) (next : Machine) → Moves m granules next → IsKept start next
moves_keep_all start m kept granules next by =
    let valid = kept.store_valid in
    let lazily = valid.seen_as.lazy_state in
    let quiet = moves_in_order m.lazy granules lazily by.granules_of_it in
    let after = with_moved m.lazy granules in
    let seen : IsSeenAs m.db after = record { lazy_state = quiet.seen_as.lazy_state; view = quiet.seen_as.view ∙ valid.seen_as.view } in
    subst (IsKept start) (sym by.goes)
    (stored_kept start m (rest_of_kept start m kept) after m.pass (record {
      seen_as = seen;
      narrow = narrow_live _ after quiet.seen_as (narrow_view m.lazy lazily valid.narrow);
      by_pass = by_pass_still m.lazy granules m.pass valid.by_pass;
      puts = λ s o is_open. still_puts m.lazy lazily granules by.granules_of_it o.pending (valid.puts s o is_open);
    }))
