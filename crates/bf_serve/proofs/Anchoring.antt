-- Granules that stand at anchors, one behind the other: one more among others.
use Rattle.std.proofs.Common.{◌≡◌, ◌≢◌, ℕ, ◌+◌, ◌<◌, ◌≤◌, Bool, true, false, cond, List, [], ◌∷◌, length, Option, Some, None, is_lt, refl, sym, ap, subst, ◌∙◌, arith, inl, inr}
use Rattle.std.specs.Prelude.{IsTrue}
use Rattle.std.specs.List.{AllByRecursion, slice_get}
use Rattle.std.specs.Option.{option_and_then, option_map}
use Rattle.std.proofs.lemmas.Bool.{cases_Bool}
use Rattle.std.proofs.lemmas.Option.{none-some, same_Some}
use Rattle.bf_base.specs.declared.granule.Granule.{Granule}
use Rattle.bf_base.specs.declared.granule.Place.{Place}
use Rattle.bf_base.specs.Lists.{has, placed, rises}
use Rattle.bf_sql.specs.migrations.Granules.{UnitForm, anchors_of, granule, same_granule}
use Rattle.bf_image.specs.Migrations.{anchored_at, old_of, unit_at}
use Rattle.bf_image.specs.declared.migration.Migration.{Migration}
use Rattle.bf_store.specs.States.{AreGranules, granule_cmp}
use Rattle.bf_store.specs.Stores.{migration_of}
use Rattle.bf_trackers.specs.Migrations.{IsGranuleOf}
use Rattle.bf_trackers.specs.Ordered.{with_granule}
use Rattle.bf_trackers.proofs.Anchored.{anchored_granule}
use Rattle.bf_trackers.proofs.Rising.{granules_with, if_new, if_there, rising_with}

placed_length : (gs : List Granule) (g : Granule) → length (placed granule_cmp (λ h. h) gs g) ≡ length gs + 1
placed_length [] g = refl
placed_length (h ∷ gs) g = on (placed_length gs g) (is_lt (granule_cmp g h)) refl
  where
    on : length (placed granule_cmp (λ h. h) gs g) ≡ length gs + 1 → (b : Bool) → is_lt (granule_cmp g h) ≡ b → length (placed granule_cmp (λ h. h) (h ∷ gs) g) ≡ length (h ∷ gs) + 1
    on rest true e = ap length (ap (λ b. cond b (g ∷ h ∷ gs) (h ∷ placed granule_cmp (λ h. h) gs g)) e) ∙ omega arith
    on rest false e = ap length (ap (λ b. cond b (g ∷ h ∷ gs) (h ∷ placed granule_cmp (λ h. h) gs g)) e) ∙ omega (arith, rest)

pub with_length : (gs : List Granule) (g : Granule) → length (with_granule gs g) ≤ length gs + 1
with_length gs g = elim (cases_Bool (has same_granule gs g)) [
  | inl there ↦ (let same = ap length (if_there gs g there) in omega (arith, same))
  | inr none ↦ (let more = ap length (if_new gs g none) ∙ placed_length gs g in omega (arith, more))
]

module _ (P : Granule → Type 0) where
  placed_all : (gs : List Granule) (g : Granule) → AllByRecursion P gs → P g → AllByRecursion P (placed granule_cmp (λ h. h) gs g)
  placed_all [] g all own = (own, tt)
  placed_all (h ∷ gs) g all own = on (placed_all gs g all.1 own) (is_lt (granule_cmp g h)) refl
    where
      on : AllByRecursion P (placed granule_cmp (λ h. h) gs g) → (b : Bool) → is_lt (granule_cmp g h) ≡ b → AllByRecursion P (placed granule_cmp (λ h. h) (h ∷ gs) g)
      on rest true e = subst (AllByRecursion P) (sym (ap (λ b. cond b (g ∷ h ∷ gs) (h ∷ placed granule_cmp (λ h. h) gs g)) e)) (own, all)
      on rest false e = subst (AllByRecursion P) (sym (ap (λ b. cond b (g ∷ h ∷ gs) (h ∷ placed granule_cmp (λ h. h) gs g)) e)) (all.0, rest)

  pub with_all : (gs : List Granule) (g : Granule) → AllByRecursion P gs → P g → AllByRecursion P (with_granule gs g)
  with_all gs g all own = elim (cases_Bool (has same_granule gs g)) [
    | inl there ↦ subst (AllByRecursion P) (sym (if_there gs g there)) all
    | inr none ↦ subst (AllByRecursion P) (sym (if_new gs g none)) (placed_all gs g all own)
  ]

-- what stands at an anchor is of its unit
module _ (m : Migration) (unit anchor : ℕ) (g : Granule) where
  of_place : (o : Option Place) → option_map (granule unit) o ≡ Some g → g.unit ≡ unit
  of_place None e = absurd (none-some g e)
  of_place (Some p) e = sym (ap (λ (h : Granule). h.unit) (same_Some (granule unit p) g e))

  of_form : (o : Option UnitForm) → option_and_then (λ u. option_map (granule unit) (slice_get (anchors_of (old_of m) u) anchor)) o ≡ Some g → g.unit ≡ unit
  of_form None e = absurd (none-some g e)
  of_form (Some form) e = of_place (slice_get (anchors_of (old_of m) form) anchor) e

  pub anchored_unit : anchored_at m unit anchor ≡ Some g → g.unit ≡ unit
  anchored_unit e = of_form (unit_at m unit) e

-- the granules at some anchors of a unit, so far
abbrev pub AreSoFar : Migration → ℕ → ℕ → List Granule → Type 0
AreSoFar m unit most gs =
    AreGranules (migration_of m []) gs × IsTrue (rises granule_cmp gs) × (length gs ≤ most) × AllByRecursion (λ g. g.unit ≡ unit) gs

module _ (m : Migration) (unit most anchor : ℕ) (gs : List Granule) (g : Granule) where
  pub one_more : AreSoFar m unit most gs → length gs ≢ most → anchored_at m unit anchor ≡ Some g → AreSoFar m unit most (with_granule gs g)
  one_more so_far few at =
      let own : IsGranuleOf m g = anchored_granule m unit anchor g at in
      let long = with_length gs g in
      let within : length gs ≤ most = so_far.2 in
      let less : length gs < most = fewer (length gs) most within few in
      (granules_with m gs g so_far.1 so_far.0 own, rising_with gs g so_far.1, omega (arith, long, less), with_all (λ h. h.unit ≡ unit) gs g so_far.3 (anchored_unit m unit anchor g at))
    where
      fewer : (a b : ℕ) → a ≤ b → a ≢ b → a < b
      fewer a b le ne = grind arith
