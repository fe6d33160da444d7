-- What stands at an anchor of a unit is a granule of the migration.
use Rattle.std.proofs.Common.{◌≡◌, ℕ, zero, suc, ◌+◌, true, List, [], ◌∷◌, map, flat_map, refl, sym, ap, subst, ◌∙◌, arith, Option, Some, None}
use Rattle.std.specs.List.{enumerate_from, slice_get}
use Rattle.std.specs.Option.{option_and_then, option_map}
use Rattle.std.proofs.lemmas.Bool.{or_left, or_right}
use Rattle.std.proofs.lemmas.List.Folds.{list_any-append}
use Rattle.std.proofs.lemmas.Option.{none-some, same_Some}
use Rattle.bf_base.specs.declared.granule.Granule.{Granule}
use Rattle.bf_base.specs.declared.granule.Place.{Place}
use Rattle.bf_base.specs.Lists.{has}
use Rattle.bf_sql.specs.Database.{Database}
use Rattle.bf_sql.specs.migrations.Granules.{UnitForm, anchors_of, granule, same_granule}
use Rattle.bf_image.specs.Migrations.{anchored_at, old_of, units_in}
use Rattle.bf_image.specs.declared.migration.Migration.{Migration}
use Rattle.bf_image.proofs.finding.Found.{same_granule-itself}
use Rattle.bf_image.proofs.finding.Owned.{sweep_meets}
use Rattle.bf_trackers.specs.Migrations.{IsGranuleOf}

at_place : (n u : ℕ) (places : List Place) (a : ℕ) (p : Place) → u ≡ n → slice_get places a ≡ Some p → has same_granule (map (granule n) places) (granule u p) ≡ true
at_place n u [] a p e at = absurd (none-some p at)
at_place n u (q ∷ places) zero p e at =
    or_left _ _ (ap (λ k. same_granule (granule u p) (granule k q)) (sym e) ∙ ap (λ r. same_granule (granule u p) (granule u r)) (same_Some q p at) ∙ same_granule-itself (granule u p))
at_place n u (q ∷ places) (suc a) p e at = or_right _ _ (at_place n u places a p e at)

abbrev anchored_from : Database → ℕ → List UnitForm → List Granule
anchored_from old n forms = flat_map (λ u. map (granule u.0) (anchors_of old u.1)) (enumerate_from n forms)

in_units : (old : Database) (forms : List UnitForm) (n i u : ℕ) (form : UnitForm) (a : ℕ) (p : Place) → u ≡ n + i → slice_get forms i ≡ Some form → slice_get (anchors_of old form) a ≡ Some p
    → has same_granule (anchored_from old n forms) (granule u p) ≡ true
in_units old [] n i u form a p e there at = absurd (none-some form there)
in_units old (f ∷ forms) n zero u form a p e there at =
    let here : slice_get (anchors_of old f) a ≡ Some p = ap (λ v. slice_get (anchors_of old v) a) (same_Some f form there) ∙ at in
    list_any-append (same_granule (granule u p)) (map (granule n) (anchors_of old f)) (anchored_from old (n + 1) forms) ∙ or_left _ _ (at_place n u (anchors_of old f) a p (omega arith) here)
in_units old (f ∷ forms) n (suc i) u form a p e there at =
    list_any-append (same_granule (granule u p)) (map (granule n) (anchors_of old f)) (anchored_from old (n + 1) forms) ∙ or_right _ _ (in_units old forms (n + 1) i u form a p (omega arith) there at)

module _ (m : Migration) (unit anchor : ℕ) (g : Granule) where
  at_anchor : (form : UnitForm) → slice_get (units_in m) unit ≡ Some form → (o : Option Place) → slice_get (anchors_of (old_of m) form) anchor ≡ o → option_map (granule unit) o ≡ Some g → IsGranuleOf m g
  at_anchor form there None at e = absurd (none-some g e)
  at_anchor form there (Some p) at e =
      subst (λ h. IsGranuleOf m h) (same_Some (granule unit p) g e)
      (sym (sweep_meets (old_of m) m.plan.migrate (granule unit p)) ∙ in_units (old_of m) (units_in m) 0 unit unit form anchor p (omega arith) there at)

  of_unit : (o : Option UnitForm) → slice_get (units_in m) unit ≡ o → option_and_then (λ u. option_map (granule unit) (slice_get (anchors_of (old_of m) u) anchor)) o ≡ Some g → IsGranuleOf m g
  of_unit None there e = absurd (none-some g e)
  of_unit (Some form) there e = at_anchor form there (slice_get (anchors_of (old_of m) form) anchor) refl e

  pub anchored_granule : anchored_at m unit anchor ≡ Some g → IsGranuleOf m g
  anchored_granule e = of_unit (slice_get (units_in m) unit) refl e
