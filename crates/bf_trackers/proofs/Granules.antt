-- The granules of a migration have their places in its units.
use Rattle.std.proofs.Common.{◌≡◌, ℕ, zero, suc, ◌+◌, ◌<◌, ◌==◌, ◌&&◌, ◌||◌, ◌⊎◌, Bool, true, false, inl, inr, List, [], ◌∷◌, map, flat_map, length, refl, sym, ap, subst, ◌∙◌, arith, Option, Some, None}
use Rattle.std.specs.List.{slice_get, enumerate_from, range_with_len}
use Rattle.std.specs.Option.{option_map}
use Rattle.std.proofs.lemmas.Bool.{and_parts, false≢true}
use Rattle.std.proofs.lemmas.Bool.Decides.{nat_tests}
use Rattle.std.proofs.lemmas.List.Folds.{list_any-append}
use Rattle.std.proofs.lemmas.Option.{none-some, same_Some, slice_get-map}
use Rattle.bf_base.specs.declared.granule.Granule.{Granule}
use Rattle.bf_base.specs.declared.granule.Place.{Place}
use Rattle.bf_base.specs.declared.granule.Place.TheVariants.{Row, Group}
use Rattle.bf_base.specs.declared.value.Value.{Value}
use Rattle.bf_base.specs.Lists.{has}
use Rattle.bf_sql.specs.Database.{Database, table_rows}
use Rattle.bf_sql.specs.migrations.Granules.{UnitForm, rows_unit, values_unit, granule, places_in, same_granule, same_place}
use Rattle.bf_image.specs.Migrations.{old_of, units_in}
use Rattle.bf_image.specs.declared.migration.Migration.{Migration}
use Rattle.bf_trackers.specs.declared.units.Shape.{Shape}
use Rattle.bf_trackers.specs.declared.units.Shape.TheVariants as shape
use Rattle.bf_trackers.specs.declared.units.UnitTracker.{UnitTracker}
use Rattle.bf_trackers.specs.Migrations.{AreOf, IsGranuleOf, shape_in, shapes_of}
use Rattle.bf_trackers.specs.Units.{HasPlace, IsPlaceOf, IsThere, shape_of}

pub same_from_test : (m n : ℕ) → (m == n) ≡ true → m ≡ n
same_from_test m n e = grind (arith, nat_tests)

-- one of two tests holds
either : (a b : Bool) → (a || b) ≡ true → (a ≡ true) ⊎ (b ≡ true)
either true b e = inl refl
either false b e = inr e

-- a granule among those of a unit has the unit's number, and its place is among the unit's
in_block : (n : ℕ) (places : List Place) (g : Granule) → has same_granule (map (granule n) places) g ≡ true → (g.unit ≡ n) × (has same_place places g.place ≡ true)
in_block n [] g h = absurd (false≢true h)
in_block n (p ∷ places) g h = elim (either (g.unit == n && same_place g.place p) (has same_granule (map (granule n) places) g) h) [
  | inl here ↦ (let parts = and_parts _ _ here in (same_from_test g.unit n parts.0, ap (λ b. b || has same_place places g.place) parts.1))
  | inr later ↦ (let rest = in_block n places g later in (rest.0, later_too (same_place g.place p) _ rest.1))
]
  where
    later_too : (a b : Bool) → b ≡ true → (a || b) ≡ true
    later_too true b e = refl
    later_too false b e = e

row_place : (first count : ℕ) (p : Place) → has same_place (map Row (range_with_len first count)) p ≡ true → IsPlaceOf p (shape.Rows (first + count))
row_place first zero p h = absurd (false≢true h)
row_place first (suc count) (Row at) h = elim (either (at == first) (has same_place (map Row (range_with_len (first + 1) count)) (Row at)) h) [
  | inl here ↦ (let e = same_from_test at first here in omega arith)
  | inr later ↦ (let lt : at < first + 1 + count = row_place (first + 1) count (Row at) later in omega arith)
]
row_place first (suc count) (Group key) h = row_place (first + 1) count (Group key) h

key_place : (keys : List (List Value)) (p : Place) → has same_place (map Group keys) p ≡ true → IsPlaceOf p shape.Keys
key_place [] p h = absurd (false≢true h)
key_place (key ∷ keys) (Row at) h = key_place keys (Row at) h
key_place (key ∷ keys) (Group other) h = tt

in_unit : (old : Database) (form : UnitForm) (p : Place) → has same_place (places_in old form) p ≡ true → IsPlaceOf p (shape_in old form)
in_unit old (rows_unit driver) p h =
    let none : 0 + length (table_rows old driver) ≡ length (table_rows old driver) = omega arith in
    subst (λ n. IsPlaceOf p (shape.Rows n)) none (row_place 0 (length (table_rows old driver)) p h)
in_unit old (values_unit target arm) p h = key_place _ p h

-- a granule of some numbered units
pub record IsIn (old : Database) (forms : List UnitForm) (n : ℕ) (g : Granule) : Type 0 where
  pub at : ℕ
  pub form : UnitForm
  pub number : g.unit ≡ n + at
  pub there : slice_get forms at ≡ Some form
  pub place : IsPlaceOf g.place (shape_in old form)

among : (old : Database) (forms : List UnitForm) (n : ℕ) (g : Granule) → has same_granule (flat_map (λ u. map (granule u.0) (places_in old u.1)) (enumerate_from n forms)) g ≡ true → IsIn old forms n g
among old [] n g h = absurd (false≢true h)
among old (form ∷ forms) n g h = elim (either (has same_granule (map (granule n) (places_in old form)) g) (has same_granule (flat_map (λ u. map (granule u.0) (places_in old u.1)) (enumerate_from (n + 1) forms)) g) (sym (list_any-append (same_granule g) (map (granule n) (places_in old form)) (flat_map (λ u. map (granule u.0) (places_in old u.1)) (enumerate_from (n + 1) forms))) ∙ h)) [
  | inl here ↦ (let block = in_block n (places_in old form) g here in record { at = 0; form = form; number = (let e = block.0 in omega arith); there = refl; place = in_unit old form g.place block.1 })
  | inr later ↦ (let rest = among old forms (n + 1) g later in record { at = suc rest.at; form = rest.form; number = (let e = rest.number in omega arith); there = rest.there; place = rest.place })
]

module _ (m : Migration) (g : Granule) (one : IsGranuleOf m g) where
  found : IsIn (old_of m) (units_in m) 0 g
  found = among (old_of m) (units_in m) 0 g one

  -- the shape of its unit, in which it has its place
  pub shape_there : (s : Shape) × (slice_get (shapes_of m) g.unit ≡ Some s) × IsPlaceOf g.place s
  shape_there =
      let f = found in
      let number : g.unit ≡ f.at = (let e = f.number in omega arith) in
      (shape_in (old_of m) f.form, ap (slice_get (shapes_of m)) number ∙ slice_get-map (shape_in (old_of m)) (units_in m) f.at ∙ ap (option_map (shape_in (old_of m))) f.there, f.place)

  pub has_place : (units : List UnitTracker) → AreOf m units → HasPlace units g
  has_place units of = there (slice_get units g.unit) refl
    where
      there : (o : Option UnitTracker) → slice_get units g.unit ≡ o → IsThere (λ unit. IsPlaceOf g.place (shape_of unit)) o
      there None e =
          let none : None ≡ slice_get (shapes_of m) g.unit = sym (ap (option_map shape_of) e) ∙ sym (slice_get-map shape_of units g.unit) ∙ ap (λ shapes. slice_get shapes g.unit) of in
          absurd (none-some shape_there.0 (none ∙ shape_there.1))
      there (Some unit) e =
          let some : Some (shape_of unit) ≡ slice_get (shapes_of m) g.unit = sym (ap (option_map shape_of) e) ∙ sym (slice_get-map shape_of units g.unit) ∙ ap (λ shapes. slice_get shapes g.unit) of in
          subst (λ s. IsPlaceOf g.place s) (sym (same_Some (shape_of unit) shape_there.0 (some ∙ shape_there.1))) shape_there.2
