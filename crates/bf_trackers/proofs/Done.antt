-- The positions of granules that differ and are a migration's: each stands once, and is one of its unit.
use Rattle.std.proofs.Common.{◌≡◌, ℕ, ◌<◌, ◌≤◌, ◌==◌, ◌&&◌, Bool, true, false, not, inl, inr, List, [], ◌∷◌, ◌++◌, refl, sym, ap, ap₂, subst, ◌∙◌, arith, Some}
use Rattle.std.specs.List.{slice_get, list_all, AllByRecursion}
use Rattle.std.proofs.lemmas.Bool.{and_parts, cases_eq, false≢true, not-true, or_parts}
use Rattle.std.proofs.lemmas.List.Elements.{All-from_recursion}
use Rattle.std.proofs.lemmas.Option.{same_Some}
use Rattle.bf_base.specs.declared.granule.Granule.{Granule}
use Rattle.bf_base.specs.declared.granule.Place.{Place}
use Rattle.bf_base.specs.declared.granule.Place.TheVariants.{Row, Group}
use Rattle.bf_base.specs.Lists.{has}
use Rattle.bf_base.proofs.Apart.{are_apart}
use Rattle.bf_bits.specs.Positions.{times, IsDistinct}
use Rattle.bf_bits.proofs.Counting.{times-here, times-other}
use Rattle.bf_sql.specs.migrations.Granules.{granule, granules_of, same_granule, same_place}
use Rattle.bf_image.specs.Migrations.{old_of}
use Rattle.bf_image.specs.declared.migration.Migration.{Migration}
use Rattle.bf_image.proofs.planning.Numbered.{each_append}
use Rattle.bf_store.specs.States.{AreGranules}
use Rattle.bf_store.specs.Stores.{migration_of}
use Rattle.bf_trackers.specs.declared.units.Shape.TheVariants as shape
use Rattle.bf_trackers.specs.Migrations.{IsGranuleOf, shapes_of}
use Rattle.bf_trackers.specs.Units.{AreDoneIn, IsPlaceOf, position_if, positions_in}
use Rattle.bf_trackers.proofs.Granules.{same_from_test, shape_there}
use Rattle.bf_trackers.proofs.Lists.{same_number, other_number}

-- ---- each once
-- a position that is none of some granules' is none of theirs
module _ (unit p : ℕ) where
  none_so : (b : Bool) (q : Place) (positions : List ℕ) → (b && same_place (Row p) q) ≡ false → times p positions ≡ 0 → times p (position_if b q ++ positions) ≡ 0
  none_so true (Row at) positions differ none = elim (cases_eq p at) [
    | inl same ↦ absurd (false≢true (sym differ ∙ same_number p at same))
    | inr ne ↦ times-other p at positions ne ∙ none
  ]
  none_so true (Group key) positions differ none = none
  none_so false q positions differ none = none

  pub none_there : (gs : List Granule) → has same_granule gs (granule unit (Row p)) ≡ false → times p (positions_in unit gs) ≡ 0
  none_there [] h = refl
  none_there (g ∷ gs) h =
      let parts = or_parts (unit == g.unit && same_place (Row p) g.place) (has same_granule gs (granule unit (Row p))) h in
      let turned : (g.unit == unit && same_place (Row p) g.place) ≡ false = ap (λ b. b && same_place (Row p) g.place) (turned_test g.unit unit) ∙ parts.0 in
      none_so (g.unit == unit) g.place (positions_in unit gs) turned (none_there gs parts.1)
    where
      turned_test : (m n : ℕ) → (m == n) ≡ (n == m)
      turned_test m n = elim (cases_eq m n) [
        | inl same ↦ same_number m n same ∙ sym (same_number n m (sym same))
        | inr ne ↦ other_number m n ne ∙ sym (other_number n m (λ e. ne (sym e)))
      ]

-- one more granule, which is none of the others
module _ (unit p : ℕ) (positions : List ℕ) where
  once_so : (b : Bool) (q : Place) → ((at : ℕ) → b ≡ true → q ≡ Row at → times at positions ≡ 0) → times p positions ≤ 1 → times p (position_if b q ++ positions) ≤ 1
  once_so true (Row at) new once = elim (cases_eq p at) [
    | inl same ↦ subst (λ k. times k (at ∷ positions) ≤ 1) (sym same) (let none = new at refl refl in let one = times-here at positions in omega arith)
    | inr ne ↦ (let rest = times-other p at positions ne in omega arith)
  ]
  once_so true (Group key) new once = once
  once_so false q new once = once

pub once : (unit : ℕ) (gs : List Granule) → are_apart same_granule gs ≡ true → IsDistinct (positions_in unit gs)
once unit [] apart p = omega arith
once unit (g ∷ gs) apart p =
    let parts = and_parts (not (has same_granule gs g)) (are_apart same_granule gs) apart in
    once_so unit p (positions_in unit gs) (g.unit == unit) g.place
    (λ at is place. none_there unit at gs (ap (has same_granule gs) (same_from g at (same_from_test g.unit unit is) place) ∙ not-true _ parts.0))
    (once unit gs parts.1 p)
  where
    same_from : (g : Granule) (at : ℕ) → g.unit ≡ unit → g.place ≡ Row at → granule unit (Row at) ≡ g
    same_from g at e f = ap₂ granule (sym e) (sym f)

-- ---- each within its unit
module _ (m : Migration) (unit rows : ℕ) (here : slice_get (shapes_of m) unit ≡ Some (shape.Rows rows)) where
  within_so : (g : Granule) → IsGranuleOf m g → (b : Bool) → (g.unit == unit) ≡ b → AllByRecursion (λ at. at < rows) (position_if b g.place)
  within_so g one true e = of g.place place
    where
      there : slice_get (shapes_of m) unit ≡ Some (shape_there m g one).0
      there = ap (slice_get (shapes_of m)) (sym (same_from_test g.unit unit e)) ∙ (shape_there m g one).1

      place : IsPlaceOf g.place (shape.Rows rows)
      place = subst (λ s. IsPlaceOf g.place s) (sym (same_Some (shape.Rows rows) (shape_there m g one).0 (sym here ∙ there))) (shape_there m g one).2

      of : (q : Place) → IsPlaceOf q (shape.Rows rows) → AllByRecursion (λ at. at < rows) (position_if true q)
      of (Row at) is = (is, tt)
      of (Group key) is = tt
  within_so g one false e = tt

  pub within : (gs : List Granule) → list_all (has same_granule (granules_of (old_of m) m.plan.migrate)) gs ≡ true → AllByRecursion (λ at. at < rows) (positions_in unit gs)
  within [] each = tt
  within (g ∷ gs) each =
      let parts = and_parts (has same_granule (granules_of (old_of m) m.plan.migrate) g) _ each in
      each_append (λ at. at < rows) (position_if (g.unit == unit) g.place) (positions_in unit gs) (within_so g parts.0 (g.unit == unit) refl) (within gs parts.1)

pub may_be_done : (m : Migration) (done : List Granule) → AreGranules (migration_of m []) done → AreDoneIn (shapes_of m) done
may_be_done m done are unit (shape.Rows rows) here = (once unit done are.apart, All-from_recursion (λ at. at < rows) (positions_in unit done) (within m unit rows here done are.each))
may_be_done m done are unit shape.Keys here = tt
