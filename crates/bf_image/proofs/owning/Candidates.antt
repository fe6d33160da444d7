-- The candidates for the owner of a key, unit by unit.
use Rattle.std.proofs.Common.{◌≡◌, ℕ, ◌+◌, ◌<◌, ◌≤◌, true, false, if◌then◌else◌, eqb, List, [], ◌++◌, map, flat_map, length, drop, Option, Some, None, option_map, unwrap_or, refl, sym, ap, subst, ◌∙◌, inl, inr, arith}
use Rattle.std.specs.Prelude.{slice_get, IsTrue}
use Rattle.std.specs.List.{enumerate_from}
use Rattle.std.proofs.lemmas.Bool.{cases_Bool}
use Rattle.std.proofs.lemmas.Bool.Decides.{nat_tests}
use Rattle.std.proofs.lemmas.List.{at_drop_more, drop_all}
use Rattle.std.proofs.lemmas.Option.{slice_get-get_or}
use Rattle.bf_base.specs.declared.granule.Granule.{Granule}
use Rattle.bf_base.specs.declared.granule.Place.{Place}
use Rattle.bf_base.specs.declared.granule.Place.TheVariants.{Group}
use Rattle.bf_base.specs.declared.value.Value.{Value}
use Rattle.bf_base.specs.Lists.{same_name}
use Rattle.bf_tree.specs.Limits.{is_narrow}
use Rattle.bf_tree.specs.declared.migration.Arm.{Arm}
use Rattle.bf_tree.specs.declared.migration.Target.{Target}
use Rattle.bf_tree.specs.declared.plan.Unit.{Unit as Planned}
use Rattle.bf_tree.specs.declared.plan.UnitKind.{UnitKind}
use Rattle.bf_tree.specs.declared.plan.UnitKind.TheVariants.{Rows, Groups, Joins}
use Rattle.bf_sql.specs.migrations.Granules.{UnitForm, rows_unit, values_unit, granule}
use Rattle.bf_sql.specs.migrations.Targets.{arm_kind}
use Rattle.bf_image.specs.BoundArms.{IsFrozenArm, IsOfUnit}
use Rattle.bf_image.specs.Lookup.{places_by, values_by}
use Rattle.bf_image.specs.Migrations.{IsLawfulMigration, old_of, target_at, unit_at, units_in}
use Rattle.bf_image.specs.Owners.{candidates_at}
use Rattle.bf_image.specs.PlannedUnits.{form_by, unit_form}
use Rattle.bf_image.specs.declared.arms.FrozenArm.{FrozenArm}
use Rattle.bf_image.specs.declared.migration.Frozen.{Frozen}
use Rattle.bf_image.specs.declared.migration.Migration.{Migration}
use Rattle.bf_image.proofs.items.Names.{name-itself}
use Rattle.bf_image.proofs.owning.Armed.{IsOfArmed, armed_within, unit_armed}
use Rattle.bf_image.proofs.owning.Stored.{each_found}
use Rattle.bf_image.proofs.owning.Targets.{name_tells_number}
use Rattle.bf_image.proofs.planning.Units.{unit_at_number}

module _ (m : Migration) (t : Target) (key : List Value) where
  abbrev of_unit : ℕ × UnitForm → List Granule
  of_unit u = map (granule u.0) (places_by (old_of m) t key u.1)

  -- the candidates of the units from one on
  abbrev pub candidates_from : ℕ → List Granule
  candidates_from number = flat_map of_unit (enumerate_from number (drop number (units_in m)))

  pub candidates_more : (number : ℕ) → number < length (units_in m) → candidates_from number ≡ candidates_at m t key number ++ candidates_from (number + 1)
  candidates_more number within =
      let d : UnitForm = rows_unit [] in
      at_drop_more (λ us. flat_map of_unit (enumerate_from number us)) (units_in m) number d within
      ∙ ap (λ o. unwrap_or (option_map (λ unit. map (granule number) (places_by (old_of m) t key unit)) o) [] ++ candidates_from (number + 1)) (sym (slice_get-get_or (units_in m) number d within))

  pub no_more_candidates : (number : ℕ) → length (units_in m) ≤ number → candidates_from number ≡ []
  no_more_candidates number past = ap (λ us. flat_map of_unit (enumerate_from number us)) (drop_all number (units_in m) past)

module _ (m : Migration) (lawful : IsLawfulMigration m) (number target : ℕ) (key : List Value) where
  abbrev of_form : Option UnitForm → List Granule
  of_form o = unwrap_or (option_map (λ unit. map (granule number) (places_by (old_of m) (target_at m target) key unit)) o) []

  abbrev IsPlaceOf : List Place → Type 0
  IsPlaceOf places = map (granule number) places ≡ candidates_at m (target_at m target) key number

  -- where the unit is that of an arm of the target
  pub place_by_arm : (bound : FrozenArm) (places : List Place) → IsOfUnit m (unit_at m number) (Some bound) → bound.target ≡ target
      → ((arm : Arm) → IsFrozenArm m bound.target arm bound → places ≡ map Group (values_by (old_of m) arm key (arm_kind (old_of m) arm))) → IsPlaceOf places
  place_by_arm bound places is own made = of (unit_at m number) is
    where
      of : (unit : Option UnitForm) → IsOfUnit m unit (Some bound) → map (granule number) places ≡ of_form unit
      of None is = absurd is
      of (Some (rows_unit driver)) is = absurd is
      of (Some (values_unit its arm)) is =
          let same : its ≡ target_at m target = sym is.1 ∙ ap (target_at m) own in
          let named : same_name its.name (target_at m target).name ≡ true = ap (λ (s : Target). same_name its.name s.name) (sym same) ∙ name-itself its.name in
          ap (map (granule number)) (made arm is.0)
          ∙ ap (λ b. map (granule number) (if b then map Group (values_by (old_of m) arm key (arm_kind (old_of m) arm)) else [])) (sym named)

  -- where it is that of an arm of another target
  pub no_place_by_arm : target < length m.plan.migrate.targets → (bound : FrozenArm) → IsOfUnit m (unit_at m number) (Some bound) → (bound.target ≡ target → ⊥) → IsPlaceOf []
  no_place_by_arm there bound is differs = of (unit_at m number) refl is
    where
      other : eqb bound.target target ≡ false
      other = elim (cases_Bool (eqb bound.target target)) [
        | inl same ↦ let equal : bound.target ≡ target = grind (arith, nat_tests) in absurd (differs equal)
        | inr apart ↦ apart
      ]

      of : (unit : Option UnitForm) → unit_at m number ≡ unit → IsOfUnit m unit (Some bound) → [] ≡ of_form unit
      of None at is = absurd is
      of (Some (rows_unit driver)) at is = absurd is
      of (Some (values_unit its arm)) at is =
          let armed : IsOfArmed (values_unit its arm) = unit_armed (old_of m) m.plan.migrate number (values_unit its arm) at in
          let within : bound.target < length m.plan.migrate.targets = armed_within m bound.target (subst (λ (s : Target). 0 < length s.arms) (sym is.1) armed) in
          let named : same_name its.name (target_at m target).name ≡ false =
          ap (λ (s : Target). same_name s.name (target_at m target).name) (sym is.1) ∙ name_tells_number m lawful bound.target target within there ∙ other in
          ap (λ b. map (granule number) (if b then map Group (values_by (old_of m) arm key (arm_kind (old_of m) arm)) else [])) (sym named)

  -- where it is a unit by rows
  pub place_by_driver : (unit : Planned) (places : List Place) → slice_get m.plan.units number ≡ Some unit → IsOfUnit m (unit_at m number) None
      → places ≡ places_by (old_of m) (target_at m target) key (rows_unit unit.driver) → IsPlaceOf places
  place_by_driver unit places at none made = of unit.kind (sym form) (subst (λ o. IsOfUnit m o None) form none)
    where
      form : unit_at m number ≡ Some (unit_form m.plan.migrate unit)
      form = unit_at_number m lawful number ∙ ap (option_map (unit_form m.plan.migrate)) at

      of : (kind : UnitKind) → Some (form_by m.plan.migrate kind unit.driver unit.arms) ≡ unit_at m number → IsOfUnit m (Some (form_by m.plan.migrate kind unit.driver unit.arms)) None → IsPlaceOf places
      of Rows is none = ap (map (granule number)) made ∙ ap of_form is
      of Groups is none = absurd none
      of Joins is none = absurd none

  -- where there is no unit
  pub no_place : slice_get m.plan.units number ≡ None → IsPlaceOf []
  no_place past = sym (ap of_form (unit_at_number m lawful number ∙ ap (option_map (unit_form m.plan.migrate)) past))

-- FROM of the arm of a unit is narrow
module _ (m : Migration) (lawful : IsLawfulMigration m) (bound : FrozenArm) where
  pub narrow_from : (unit : Option UnitForm) → IsOfUnit m unit (Some bound) → IsTrue (is_narrow bound.from.now.table)
  narrow_from None is = absurd is
  narrow_from (Some (rows_unit driver)) is = absurd is
  narrow_from (Some (values_unit its arm)) is =
      each_found (λ (f : Frozen). IsTrue (is_narrow f.table)) (λ (f : Frozen). same_name f.table.name arm.from) m.frozen bound.from.now lawful.tables is.0.from
