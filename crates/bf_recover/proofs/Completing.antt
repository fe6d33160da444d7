-- A sweep tells whether something of the last migration is left to move.
use Rattle.std.proofs.Common.{◌≡◌, ℕ, not, List, [], ◌∷◌, find, length, Option, Some, None, refl, sym, ap, ◌∙◌}
use Rattle.bf_base.specs.declared.granule.Granule.{Granule}
use Rattle.bf_tree.specs.declared.history.Sweep.TheVariants.{Complete}
use Rattle.bf_sql.specs.migrations.Lazy.{Migration, anchored, is_done, pending, pending_of, sweep_by, sweep_of}
use Rattle.bf_store.proofs.moving.Sweeping.{complete_if_none_pending, none_pending_if_complete}
use Rattle.bf_recover.specs.Flips.{says_complete}
use Rattle.bf_recover.specs.Schemas.{is_empty}

module _ (last : Migration) where
  by_next : (next : Option (Granule × ℕ)) → find (λ a. not (is_done last a.0)) (anchored last) ≡ next → (gs : List Granule) → pending last ≡ gs
      → says_complete (sweep_by last next) ≡ is_empty gs
  by_next None found [] left = refl
  by_next None found (g ∷ gs) left =
      let none : pending last ≡ [] = none_pending_if_complete last (ap (sweep_by last) found) in
      absurd cc
  by_next (Some next) found [] left =
      let clash : sweep_by last (Some next) ≡ Complete last.number (length last.done) = ap (sweep_by last) (sym found) ∙ complete_if_none_pending last left in
      absurd cc
  by_next (Some next) found (g ∷ gs) left = refl

pub sweep_tells : (last : Option Migration) → says_complete (sweep_of last) ≡ is_empty (pending_of last)
sweep_tells None = refl
sweep_tells (Some last) = by_next last (find (λ a. not (is_done last a.0)) (anchored last)) refl (pending last) refl
