-- What is left of the last migration, once all of it has moved.
use Rattle.std.proofs.Common.{◌≡◌, ℕ, List, [], Option, Some, None, refl, sym, ap, subst, ◌∙◌}
use Rattle.std.specs.Prelude.{IsSomeAnd, IsTrue}
use Rattle.std.specs.Option.{option_map}
use Rattle.std.proofs.lemmas.Option.{none-some, same_Some}
use Rattle.boxcar.specs.Table.{Where}
use Rattle.bf_base.specs.declared.granule.Granule.{Granule}
use Rattle.bf_base.specs.Lists.{rises}
use Rattle.bf_image.specs.Migrations.{old_of}
use Rattle.bf_image.specs.declared.migration.Migration.{Migration as Kept}
use Rattle.bf_tree.specs.declared.bound.Action.TheVariants as action
use Rattle.bf_tree.specs.declared.migration.Migrate.{Migrate}
use Rattle.bf_sql.specs.Database.{Database}
use Rattle.bf_sql.specs.migrations.Granules.{granules_of}
use Rattle.bf_sql.specs.migrations.Lazy.{LazyState, Migration, pending_of}
use Rattle.bf_store.specs.States.{AreGranules, AreGranulesIfAny, IsComplete, IsLazy, IsUnderWayIfAny, granule_cmp, need_of, to_move}
use Rattle.bf_store.specs.Stores.{IsByPass, migration_of}
use Rattle.bf_store.proofs.moving.Completing.{complete_sweep}
use Rattle.bf_store.proofs.moving.Sweeping.{none_pending_if_complete}
use Rattle.bf_machine.specs.interleaving.Calls.{HasSessionEnded}
use Rattle.bf_machine.specs.interleaving.Machines.{Machine}
use Rattle.bf_machine.specs.interleaving.Serving.{MovesAll}
use Rattle.bf_machine.proofs.served.Moved.{HaveMovedBesides, need_besides, none_to_move}
use Rattle.bf_machine.proofs.served.Needs.{granules_by_pass, has_come, need_granules}
use Rattle.bf_machine.proofs.served.Records.{left_rises}

-- where each granule has moved once
pub complete_none : (live : Database) (last : Option Migration) → IsUnderWayIfAny live last → IsSomeAnd last IsComplete → pending_of last ≡ []
complete_none live None way so = refl
complete_none live (Some last) way so = none_pending_if_complete last (complete_sweep live last way so)

-- the old database and the migration that a migration under way is of
abbrev pub sources_of : Migration → Database × Migrate
sources_of last = (last.old, last.migrate)

abbrev pub some_sources : Kept → Option (Database × Migrate)
some_sources m = Some (old_of m, m.plan.migrate)

-- where all that was left of its granules has moved besides
all_besides : (last then : Option Migration) (m : Kept) → option_map sources_of last ≡ some_sources m
    → HaveMovedBesides last (to_move last (granules_of (old_of m) m.plan.migrate)) then → pending_of then ≡ []
all_besides None then m of moved = absurd cc
all_besides (Some last) then m of moved =
    let all = granules_of (old_of m) m.plan.migrate in
    let besides = need_besides (Some last) then all moved in
    let made : Migration = record last { done = besides.0 } in
    let none : to_move (Some made) all ≡ [] = subst (λ (o : Option Migration). to_move o all ≡ []) besides.1 (none_to_move (Some last) then all besides) in
    let both : sources_of last ≡ (old_of m, m.plan.migrate) = same_Some _ _ of in
    let old : last.old ≡ old_of m = ap (λ p. p.0) both in
    let migrate : last.migrate ≡ m.plan.migrate = ap (λ p. p.1) both in
    let own : to_move (Some made) (granules_of last.old last.migrate) ≡ [] = subst (λ d. to_move (Some made) (granules_of d last.migrate) ≡ []) (sym old) (subst (λ p. to_move (Some made) (granules_of (old_of m) p) ≡ []) (sym migrate) none) in
    subst (λ (o : Option Migration). pending_of o ≡ []) (sym besides.1) own

-- a migration by its pass
pub of_pass : (last : Option Migration) (pass : Option (Where Kept)) (p : Where Kept) → IsByPass last pass → pass ≡ Some p → option_map sources_of last ≡ some_sources p.value
of_pass last None p by is = absurd cc
of_pass None (Some q) p by is = absurd by
of_pass (Some last) (Some q) p by is =
    let same : q ≡ p = cc in
    ap (λ (l : Migration). option_map sources_of (Some l)) by ∙ ap (λ (r : Where Kept). some_sources r.value) same

-- the granules of a pass's migration are what a further MIGRATE needs of it
need_by : (last : Migration) (p : Kept) → sources_of last ≡ (old_of p, p.plan.migrate) → granules_of (old_of p) p.plan.migrate ≡ need_of (Some last) (action.Migrate p.plan)
need_by last p of = ap (λ q. granules_of q.0 q.1) (sym of)

pub need_is : (last : Option Migration) (pass : Option (Where Kept)) (p : Where Kept) → IsByPass last pass → pass ≡ Some p
    → granules_of (old_of p.value) p.value.plan.migrate ≡ need_of last (action.Migrate p.value.plan)
need_is None pass p by is = absurd (none-some _ (of_pass None pass p by is))
need_is (Some last) pass p by is = need_by last p.value (same_Some _ _ (of_pass (Some last) pass p by is))

-- and those of it that are left may be moved
module _ (lazy : LazyState) (pass : Option (Where Kept)) (p : Where Kept) (so : IsLazy lazy) (by : IsByPass lazy.last pass) (is : pass ≡ Some p) (gs : List Granule)
    (left : gs ≡ to_move lazy.last (granules_of (old_of p.value) p.value.plan.migrate)) where
  left_is : gs ≡ to_move lazy.last (need_of lazy.last (action.Migrate p.value.plan))
  left_is = left ∙ ap (to_move lazy.last) (need_is lazy.last pass p by is)

  pub left_granules : AreGranules (migration_of p.value []) gs
  left_granules =
      granules_by_pass lazy.last p gs (subst (λ (o : Option (Where Kept)). IsByPass lazy.last o) is by)
      (subst (AreGranulesIfAny lazy.last) (sym left_is) (need_granules lazy (action.Migrate p.value.plan) so))

  pub left_in_order : IsTrue (rises granule_cmp gs)
  left_in_order = subst (λ (hs : List Granule). IsTrue (rises granule_cmp hs)) (sym left_is) (left_rises lazy.last (action.Migrate p.value.plan))

module _ (m next : Machine) (gs : List Granule) (by : MovesAll m gs next) where
  pub pass_stays : next.pass ≡ m.pass
  pass_stays = ap (λ (k : Machine). k.pass) (has_come m gs next by).1

  pub ended_stays : (s : ℕ) → HasSessionEnded m s → HasSessionEnded next s
  ended_stays s ended = subst (λ (k : Machine). HasSessionEnded k s) (sym (has_come m gs next by).1) ended

  pub none_pending : (p : Where Kept) → IsByPass m.lazy.last m.pass → m.pass ≡ Some p → gs ≡ to_move m.lazy.last (granules_of (old_of p.value) p.value.plan.migrate) → pending_of next.lazy.last ≡ []
  none_pending p by_pass is all =
      let come = has_come m gs next by in
      ap (λ (k : Machine). pending_of k.lazy.last) come.1
      ∙ all_besides m.lazy.last come.0.last p.value (of_pass m.lazy.last m.pass p by_pass is) (subst (λ (hs : List Granule). HaveMovedBesides m.lazy.last hs come.0.last) all come.2)
