-- ENOUGH IS ENOUGH: what is left of it is what is left of the statement's need.
use Rattle.std.proofs.Common.{◌≡◌, ◌==◌, arith, ℕ, true, not, List, [], ◌∷◌, length, Option, Some, None, refl, sym, ap, ◌∙◌}
use Rattle.std.specs.Prelude.{IsSomeAnd, find}
use Rattle.std.specs.List.{list_all}
use Rattle.std.specs.Option.{option_map}
use Rattle.std.proofs.lemmas.Bool.Decides.{nat_tests}
use Rattle.boxcar.specs.Table.{Where}
use Rattle.bf_base.specs.declared.granule.Granule.{Granule}
use Rattle.bf_base.specs.Lists.{has}
use Rattle.bf_tree.specs.declared.bound.Action.{Action}
use Rattle.bf_tree.specs.declared.bound.Bound.{Bound}
use Rattle.bf_tree.specs.declared.history.Sweep.TheVariants.{Complete}
use Rattle.bf_sql.specs.Database.{Database}
use Rattle.bf_sql.specs.migrations.Granules.{granules_of, same_granule}
use Rattle.bf_sql.specs.migrations.Lazy.{LazyState, Migration, anchored, is_done, pending, sweep_by, sweep_of}
use Rattle.bf_sql.specs.migrations.Need.{needed_for}
use Rattle.bf_image.specs.declared.migration.Migration.{Migration as Kept}
use Rattle.bf_image.proofs.items.Lists.{all_so}
use Rattle.bf_store.specs.States.{IsComplete, IsUnderWayIfAny, granules_done, need_of, to_move}
use Rattle.bf_store.specs.Stores.{IsByPass}
use Rattle.bf_store.proofs.coming.Parts.{granules_apart}
use Rattle.bf_store.proofs.moving.Completing.{complete_sweep, each_once, has_if_within}
use Rattle.bf_store.proofs.moving.Needing.{done_if_none_left, need_is_granules, none_left_if_done}
use Rattle.bf_store.proofs.moving.Sweeping.{none_pending_if_complete}
use Rattle.bf_transpose.specs.Covers.{IsCoverOf, needed_in}
use Rattle.bf_transpose.specs.declared.cover.Cover.{Cover}

-- COMPLETE, by the sweep
module _ (live : Database) where
  pub complete_if_swept : (last : Option Migration) → IsUnderWayIfAny live last → (n moved : ℕ) → Complete n moved ≡ sweep_of last → IsSomeAnd last IsComplete
  complete_if_swept None way n moved is = absurd cc
  complete_if_swept (Some last) way n moved is = each_once live last way (sym is ∙ by (find (λ (a : Granule × ℕ). not (is_done last a.0)) (anchored last)) is)
    where
      by : (next : Option (Granule × ℕ)) → Complete n moved ≡ sweep_by last next → Complete n moved ≡ Complete last.number (length last.done)
      by None is = is
      by (Some next) is = absurd cc

  pub swept_if_complete : (last : Option Migration) → IsUnderWayIfAny live last → IsSomeAnd last IsComplete → (n : ℕ) × (moved : ℕ) × (sweep_of last ≡ Complete n moved)
  swept_if_complete None way complete = absurd complete
  swept_if_complete (Some last) way complete = (last.number, length last.done, complete_sweep live last way complete)

  -- then nothing is left of a need
  pub complete_leaves_none : (last : Option Migration) → IsUnderWayIfAny live last → IsSomeAnd last IsComplete → (act : Action) → to_move last (need_of last act) ≡ []
  complete_leaves_none None way complete act = absurd complete
  complete_leaves_none (Some last) way complete act =
      let all = granules_of last.old last.migrate in
      let need = needed_for last.old last.migrate act in
      let none : pending last ≡ [] = none_pending_if_complete last (complete_sweep live last way complete) in
      let each = (need_is_granules last (granules_apart last.old last.migrate) act).each in
      none_left_if_done last need
      (all_so (has same_granule all) (is_done last) (λ g there. has_if_within all (granules_done last) g (done_if_none_left last all none) there) need each)

pub nothing_left : (last : Option Migration) → to_move last [] ≡ []
nothing_left None = refl
nothing_left (Some last) = refl

-- the need, by the pass of the last migration
pub need_by_pass : (last : Option Migration) (pass : Option (Where Kept)) (act : Action) → IsByPass last pass
    → need_of last act ≡ needed_in (option_map (λ p. p.value) pass) act
need_by_pass None None act is = refl
need_by_pass (Some last) (Some pass) act is = ap (λ (l : Migration). needed_for l.old l.migrate act) is
need_by_pass None (Some pass) act is = absurd is
need_by_pass (Some last) None act is = absurd is

-- of a cover is left to move what is left of the need
abbrev pub IsEnoughFor : Option Migration → Option Kept → Bound → Cover → Type 0
IsEnoughFor last migration bound cover = to_move last cover.granules.items ≡ to_move last (needed_in migration bound.action)

module _ (lazy : LazyState) (own : Option (Where Kept)) (by : IsByPass lazy.last own) (migration : Option Kept)
    (same : migration ≡ option_map (λ (p : Where Kept). p.value) own) (bound : Bound) (cover : Cover) where
  pub enough_is_enough : IsEnoughFor lazy.last migration bound cover → to_move lazy.last cover.granules.items ≡ to_move lazy.last (need_of lazy.last bound.action)
  enough_is_enough is = is ∙ ap (to_move lazy.last) (ap (λ (last : Option Kept). needed_in last bound.action) same ∙ sym (need_by_pass lazy.last own bound.action by))

-- an exact cover is enough
pub exact_is_enough : (last : Option Migration) (migration : Option Kept) (bound : Bound) (cover : Cover) → IsCoverOf migration bound cover → IsEnoughFor last migration bound cover
exact_is_enough last migration bound cover covers = ap (to_move last) covers.granules

-- and no granule where none of the need is left
pub nothing_is_enough : (last : Option Migration) (migration : Option Kept) (bound : Bound) (cover : Cover) → cover.granules.items ≡ [] → to_move last (needed_in migration bound.action) ≡ []
    → IsEnoughFor last migration bound cover
nothing_is_enough last migration bound cover empty none = ap (to_move last) empty ∙ (nothing_left last ∙ sym none)

-- among granules of which none is left stands none that is left
pub none_among : (last : Option Migration) (granules need : List Granule) → list_all (has same_granule granules) need ≡ true → to_move last granules ≡ [] → to_move last need ≡ []
none_among None granules need each none = refl
none_among (Some last) granules need each none =
    none_left_if_done last need
    (all_so (has same_granule granules) (is_done last) (λ g there. has_if_within granules (granules_done last) g (done_if_none_left last granules none) there) need each)

-- a list of no items
pub nothing_there : (granules : List Granule) (n : ℕ) → (n == 0) ≡ true → n ≡ length granules → granules ≡ []
nothing_there [] n zero size = refl
nothing_there (g ∷ gs) n zero size =
    let none : n ≡ 0 = grind (arith, nat_tests, zero) in
    absurd (omega (arith, none, size))
