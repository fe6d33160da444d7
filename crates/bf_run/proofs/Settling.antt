-- The live tables once all that is left of the last migration has moved, and their rows counted.
use Rattle.std.proofs.Common.{◌≡◌, ℕ, List, [], length, Option, Some, None, find, not as not_of, refl, sym, ap, subst, ◌∙◌}
use Rattle.std.specs.Option.{option_map}
use Rattle.std.proofs.lemmas.Option.{none-some, same_Some}
use Rattle.boxcar.specs.Table.{Where}
use Rattle.bf_base.specs.declared.granule.Granule.{Granule}
use Rattle.bf_base.specs.declared.table.Table.{Table}
use Rattle.bf_tree.specs.declared.history.Sweep.{Sweep}
use Rattle.bf_tree.specs.declared.history.Sweep.TheVariants.{Complete, Running}
use Rattle.bf_sql.specs.Database.{Database, table_rows}
use Rattle.bf_sql.specs.migrations.Granules.{granules_of, same_granule}
use Rattle.bf_sql.specs.migrations.Lazy.{LazyState, Migration, anchored, is_done, moved, pending_of, sweep_by, sweep_of, view_of}
use Rattle.bf_image.proofs.finding.Found.{same_granule-itself}
use Rattle.bf_image.proofs.items.Lists.{has_own}
use Rattle.bf_image.specs.Migrations.{old_of}
use Rattle.bf_image.specs.declared.migration.Migration.{Migration as Kept}
use Rattle.bf_store.specs.States.{AreGranulesIfAny, IsLazy, need_of_all, with_moved}
use Rattle.bf_store.specs.Stores.{IsByPass}
use Rattle.bf_store.proofs.changing.Flipping.{view_itself}
use Rattle.bf_store.proofs.coming.Parts.{granules_apart}
use Rattle.bf_store.proofs.moving.Needing.{all_moved, all_quiet}
use Rattle.bf_store.proofs.moving.Sweeping.{none_pending_if_complete}
use Rattle.bf_machine.proofs.served.Needs.{none_by_pass}
use Rattle.bf_serve.proofs.Rest.{of_pass, some_sources, sources_of}

-- a table with the number of its rows
abbrev pub counted : Database → Table → List ℕ × ℕ
counted db t = (t.name, length (table_rows db t.name))

-- where nothing is left
pub settled_so : (lazy : LazyState) → pending_of lazy.last ≡ [] → lazy.live ≡ view_of lazy
settled_so lazy none = sym (view_itself lazy none)

pub settled_without : (lazy : LazyState) (pass : Option (Where Kept)) → IsByPass lazy.last pass → None ≡ pass → lazy.live ≡ view_of lazy
settled_without lazy pass by none =
    let last : lazy.last ≡ None = none_by_pass lazy.last (subst (λ (o : Option (Where Kept)). IsByPass lazy.last o) (sym none) by) in
    settled_so lazy (ap pending_of last)

-- a sweep that does not tell what is left
complete_is : (last : Migration) (o : Option (Granule × ℕ)) → ((m n u p : ℕ) → sweep_by last o ≡ Running m n u p → ⊥) → sweep_by last o ≡ Complete last.number (length last.done)
complete_is last None not = refl
complete_is last (Some a) not = absurd (not _ _ _ _ refl)

none_left : (last : Option Migration) → ((m n u p : ℕ) → sweep_of last ≡ Running m n u p → ⊥) → pending_of last ≡ []
none_left None not = refl
none_left (Some last) not = none_pending_if_complete last (complete_is last (find (λ a. not_of (is_done last a.0)) (anchored last)) not)

pub settled_by : (lazy : LazyState) (sweep : Sweep) → sweep ≡ sweep_of lazy.last → ((m n u p : ℕ) → sweep ≡ Running m n u p → ⊥) → lazy.live ≡ view_of lazy
settled_by lazy sweep is not = settled_so lazy (none_left lazy.last (λ m n u p e. not m n u p (is ∙ e)))

-- and where all moves
need_all : (last : Option Migration) (p : Kept) → option_map sources_of last ≡ some_sources p → granules_of (old_of p) p.plan.migrate ≡ need_of_all last
need_all None p of = absurd (none-some _ of)
need_all (Some last) p of = ap (λ q. granules_of q.0 q.1) (sym (same_Some _ _ of))

module _ (lazy : LazyState) (pass : Option (Where Kept)) (p : Where Kept) (by : IsByPass lazy.last pass) (is : pass ≡ Some p) (gs : List Granule)
    (all : gs ≡ granules_of (old_of p.value) p.value.plan.migrate) where
  whole : gs ≡ need_of_all lazy.last
  whole = all ∙ need_all lazy.last p.value (of_pass lazy.last pass p by is)

  pub all_granules_are : AreGranulesIfAny lazy.last gs
  all_granules_are = subst (AreGranulesIfAny lazy.last) (sym whole) (are lazy.last)
    where
      are : (last : Option Migration) → AreGranulesIfAny last (need_of_all last)
      are None = tt
      are (Some last) = record {
        each = has_own same_granule same_granule-itself (granules_of last.old last.migrate);
        apart = granules_apart last.old last.migrate;
      }

  pub settled : IsLazy lazy → (after : LazyState) → after ≡ with_moved lazy gs → after.live ≡ view_of lazy
  settled so after then =
      ap (λ (l : LazyState). l.live) then ∙ ap (λ (hs : List Granule). (moved lazy hs).live) whole
      ∙ sym (view_itself (moved lazy (need_of_all lazy.last)) (all_moved lazy so))
      ∙ (all_quiet lazy so).seen_as.view
