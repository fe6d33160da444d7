-- What a statement needs moves, and then it has moved.
use Rattle.std.proofs.Common.{◌≡◌, ℕ, ◌+◌, Bool, true, false, not, ◌&&◌, ◌||◌, cond, List, [], ◌∷◌, ◌++◌, map, filter, Option, Some, None, refl, ap, subst, ◌∙◌, inl, inr}
use Rattle.std.specs.List.{list_all}
use Rattle.std.proofs.lemmas.Bool.{and_parts, and_from, not_from_false, cases_Bool}
use Rattle.std.proofs.lemmas.List.{map-append}
use Rattle.std.proofs.lemmas.List.Folds.{list_any-append}
use Rattle.std.proofs.lemmas.Simd.{map-map}
use Rattle.bf_base.specs.declared.granule.Granule.{Granule}
use Rattle.bf_base.specs.declared.value.Value.{Value}
use Rattle.bf_base.specs.Lists.{has}
use Rattle.bf_base.proofs.Apart.{are_apart, apart-filter}
use Rattle.bf_base.proofs.Parts.{map_itself}
use Rattle.bf_tree.specs.declared.bound.Action.{Action}
use Rattle.bf_tree.specs.declared.bound.Action.TheVariants as action
use Rattle.bf_tree.specs.declared.migration.Migrate.{Migrate}
use Rattle.bf_tree.specs.declared.migration.Target.{Target}
use Rattle.bf_sql.specs.Database.{Database}
use Rattle.bf_sql.specs.migrations.Granules.{granules_of, same_granule}
use Rattle.bf_sql.specs.migrations.Lazy.{DoneGranule, Migration, LazyState, is_done, not_done, pending_of, done_by, with_record_of_moves, moved}
use Rattle.bf_sql.specs.migrations.Need.{giving, needed_for}
use Rattle.bf_image.proofs.finding.Found.{same_granule-itself}
use Rattle.bf_image.proofs.items.Lists.{all_kept, has_own}
use Rattle.bf_store.specs.States.{IsUnderWayIfAny, IsLazy, IsQuiet, AreGranules, AreGranulesIfAny, HaveMoved, granules_done, need_of, need_of_all}
use Rattle.bf_store.proofs.coming.Parts.{granules_apart}
use Rattle.bf_store.proofs.moving.Moves.{moves}
use Rattle.bf_store.proofs.moving.Moving.{has_if_passes}

-- the need of an action is of granules of the migration, which differ
are_granules : (last : Migration) (test : Granule → Bool) → are_apart same_granule (granules_of last.old last.migrate) ≡ true
    → AreGranules last (filter test (granules_of last.old last.migrate))
are_granules last test apart =
    let all = granules_of last.old last.migrate in
    record {
      each = all_kept (has same_granule all) test all (has_own same_granule same_granule-itself all);
      apart = apart-filter same_granule test all apart;
    }

given : (last : Migration) (t : Option Target) (test : Target → List Value → Bool)
    → are_apart same_granule (granules_of last.old last.migrate) ≡ true → AreGranules last (giving last.old last.migrate t test)
given last None test apart = record { each = refl; apart = refl }
given last (Some t) test apart = are_granules last _ apart

pub need_is_granules : (last : Migration) → are_apart same_granule (granules_of last.old last.migrate) ≡ true → (act : Action)
    → AreGranules last (needed_for last.old last.migrate act)
need_is_granules last apart (action.Insert table rows) = given last _ _ apart
need_is_granules last apart (action.Select table items cond fixed) = given last _ _ apart
need_is_granules last apart (action.Update table sets cond fixed) = given last _ _ apart
need_is_granules last apart (action.Delete table cond fixed) = given last _ _ apart
need_is_granules last apart (action.Migrate plan) = record { each = has_own same_granule same_granule-itself (granules_of last.old last.migrate); apart = apart }
need_is_granules last apart other = record { each = refl; apart = refl }

-- all of some granules are done where none is left of them
pub done_if_none_left : (last : Migration) (gs : List Granule) → not_done last gs ≡ [] → list_all (is_done last) gs ≡ true
done_if_none_left last [] e = refl
done_if_none_left last (g ∷ gs) e = elim (is_done last g) as (λ b. is_done last g ≡ b → cond (not b) (g ∷ not_done last gs) (not_done last gs) ≡ [] → (is_done last g && list_all (is_done last) gs) ≡ true) [
  | true ↦ λ d e. and_from _ _ d (done_if_none_left last gs e)
  | false ↦ λ d e. absurd cc
] refl e

pub none_left_if_done : (last : Migration) (gs : List Granule) → list_all (is_done last) gs ≡ true → not_done last gs ≡ []
none_left_if_done last [] e = refl
none_left_if_done last (g ∷ gs) e =
    let first : is_done last g ≡ true = (and_parts _ _ e).0 in
    rw first (none_left_if_done last gs (and_parts _ _ e).1)

-- behind a record of moves, those that were done before, and those of the record
granules_then : (last : Migration) (number : ℕ) (fresh : List Granule)
    → granules_done (record last { done = last.done ++ map (done_by number) fresh }) ≡ granules_done last ++ fresh
granules_then last number fresh =
    map-append (λ (d : DoneGranule). d.granule) last.done (map (done_by number) fresh)
    ∙ ap (λ gs. granules_done last ++ gs) (map-map (λ (d : DoneGranule). d.granule) (done_by number) fresh ∙ map_itself (λ g. g) (λ g. refl) fresh)

done_then : (last : Migration) (number : ℕ) (gs hs : List Granule) → list_all (has same_granule gs) hs ≡ true
    → list_all (is_done (record last { done = last.done ++ map (done_by number) (not_done last gs) })) hs ≡ true
done_then last number gs [] all = refl
done_then last number gs (h ∷ hs) all =
    let fresh = not_done last gs in
    let first : has same_granule gs h ≡ true = (and_parts _ _ all).0 in
    let either : (is_done last h || has same_granule fresh h) ≡ true = elim (cases_Bool (is_done last h)) [
      | inl before ↦ ap (λ b. b || has same_granule fresh h) before
      | inr not_yet ↦ ap (λ b. b || has same_granule fresh h) not_yet ∙ has_if_passes (λ g. not (is_done last g)) gs h first (not_from_false _ not_yet)
    ] in
    and_from _ _ (ap (λ ds. has same_granule ds h) (granules_then last number fresh) ∙ list_any-append (same_granule h) (granules_done last) fresh ∙ either) (done_then last number gs hs (and_parts _ _ all).1)

-- what moves has moved, whatever is asked of a migration
behind_record : (asked : Database → Migrate → List Granule) (lazy : LazyState) (last : Migration) (fresh : List Granule)
    → not_done last (asked last.old last.migrate) ≡ fresh
    → HaveMoved (with_record_of_moves (record lazy { last = Some last }) last fresh).last (λ last. asked last.old last.migrate)
behind_record asked lazy last [] e = done_if_none_left last (asked last.old last.migrate) e
behind_record asked lazy last (g ∷ gs) e =
    let all = asked last.old last.migrate in
    subst (λ fresh. list_all (is_done (record last { done = last.done ++ map (done_by (lazy.records + 1)) fresh })) all ≡ true) e
    (done_then last (lazy.records + 1) all all (has_own same_granule same_granule-itself all))

-- NEED: it moves, and nobody sees it
pub need_is_quiet : (lazy : LazyState) (act : Action) → IsLazy lazy → IsQuiet lazy (moved lazy (need_of lazy.last act))
need_is_quiet lazy act is = moves lazy (need_of lazy.last act) is (are lazy.last is.last)
  where
    are : (last : Option Migration) → IsUnderWayIfAny lazy.live last → AreGranulesIfAny last (need_of last act)
    are None way = tt
    are (Some last) way = need_is_granules last (granules_apart last.old last.migrate) act

-- and then it has moved
pub need_has_moved : (lazy : LazyState) (act : Action) → IsLazy lazy
    → HaveMoved (moved lazy (need_of lazy.last act)).last (λ last. needed_for last.old last.migrate act)
need_has_moved lazy act is = on lazy.last
  where
    on : (last : Option Migration)
        → HaveMoved (moved (record lazy { last = last }) (need_of last act)).last (λ last. needed_for last.old last.migrate act)
    on None = tt
    on (Some last) = behind_record (λ old m. needed_for old m act) lazy last (not_done last (needed_for last.old last.migrate act)) refl

-- a further MIGRATE: all granules that are left move, and nobody sees it
pub all_quiet : (lazy : LazyState) → IsLazy lazy → IsQuiet lazy (moved lazy (need_of_all lazy.last))
all_quiet lazy is = moves lazy (need_of_all lazy.last) is (are lazy.last)
  where
    are : (last : Option Migration) → AreGranulesIfAny last (need_of_all last)
    are None = tt
    are (Some last) = record {
      each = has_own same_granule same_granule-itself (granules_of last.old last.migrate);
      apart = granules_apart last.old last.migrate;
    }

-- and then none is pending
pub all_moved : (lazy : LazyState) → IsLazy lazy → pending_of (moved lazy (need_of_all lazy.last)).last ≡ []
all_moved lazy is = on lazy.last
  where
    none_pending : (last : Option Migration) → HaveMoved last (λ last. granules_of last.old last.migrate) → pending_of last ≡ []
    none_pending None moved = refl
    none_pending (Some last) moved = none_left_if_done last (granules_of last.old last.migrate) moved

    on : (last : Option Migration) → pending_of (moved (record lazy { last = last }) (need_of_all last)).last ≡ []
    on None = refl
    on (Some last) =
        let then = moved (record lazy { last = Some last }) (need_of_all (Some last)) in
        none_pending then.last (behind_record granules_of lazy last (not_done last (granules_of last.old last.migrate)) refl)
