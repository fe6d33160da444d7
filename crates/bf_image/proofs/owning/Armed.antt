-- Whatever comes from a migration is of a target that has arms.
use Rattle.std.proofs.Common.{◌≡◌, ℕ, zero, suc, ◌<◌, ◌≤◌, not, List, [], ◌∷◌, map, filter, flat_map, length, Option, Some, None, option_map, unwrap_or, refl, ap, subst, inl, inr, arith}
use Rattle.std.specs.Prelude.{slice_get, nat_lt}
use Rattle.std.specs.List.{AllByRecursion}
use Rattle.std.proofs.lemmas.Bool.{cases_Bool}
use Rattle.std.proofs.lemmas.Bool.Decides.{nat_tests}
use Rattle.std.proofs.lemmas.List.{get_or_past}
use Rattle.bf_base.specs.declared.granule.Place.{Place}
use Rattle.bf_base.specs.declared.granule.Place.TheVariants.{Row, Group}
use Rattle.bf_base.specs.declared.granule.Granule.{Granule}
use Rattle.bf_base.specs.declared.value.Value.{Value}
use Rattle.bf_base.proofs.Order.{same_from_some}
use Rattle.bf_tree.specs.declared.migration.Arm.{Arm}
use Rattle.bf_tree.specs.declared.migration.Migrate.{Migrate}
use Rattle.bf_tree.specs.declared.migration.Target.{Target}
use Rattle.bf_sql.specs.Database.{Database}
use Rattle.bf_sql.specs.migrations.Granules.{UnitForm, rows_unit, values_unit, arms_of, units_of, part_at, part_of, rows_driven, from_with, join_with}
use Rattle.bf_sql.specs.migrations.Images.{arm_rows}
use Rattle.bf_sql.specs.migrations.MigrationObjections.{drivers_of, is_by_row}
use Rattle.bf_sql.specs.migrations.Targets.{arm_kind}
use Rattle.bf_image.specs.Migrations.{target_at}
use Rattle.bf_image.specs.declared.migration.Migration.{Migration}
use Rattle.bf_image.proofs.planning.Numbered.{each_append, each_of_blocks, each_of_map, each_kept}

-- ARMED: a target with an arm
abbrev pub IsArmed : Target → Type 0
IsArmed t = 0 < length t.arms

each_paired : {X : Type 0} (t : Target) → IsArmed t → (xs : List X) → AllByRecursion (λ (p : Target × X). IsArmed p.0) (map (λ x. (t, x)) xs)
each_paired t armed [] = tt
each_paired t armed (x ∷ xs) = (armed, each_paired t armed xs)

its_arms : (t : Target) (arms : List Arm) → t.arms ≡ arms → AllByRecursion (λ (p : Target × Arm). IsArmed p.0) (map (λ arm. (t, arm)) arms)
its_arms t [] e = tt
its_arms t (arm ∷ arms) e = let many = ap length e in each_paired t (omega (arith, many)) (arm ∷ arms)

each_target : (ts : List Target) → AllByRecursion (λ (p : Target × Arm). IsArmed p.0) (flat_map (λ t. map (λ arm. (t, arm)) t.arms) ts)
each_target [] = tt
each_target (t ∷ ts) = each_append (λ (p : Target × Arm). IsArmed p.0) (map (λ arm. (t, arm)) t.arms) (flat_map (λ t. map (λ arm. (t, arm)) t.arms) ts) (its_arms t t.arms refl) (each_target ts)

-- the target of a unit by values is armed
abbrev pub IsOfArmed : UnitForm → Type 0
IsOfArmed (rows_unit driver) = Unit
IsOfArmed (values_unit target arm) = IsArmed target

each_driver : (names : List (List ℕ)) → AllByRecursion IsOfArmed (map rows_unit names)
each_driver [] = tt
each_driver (name ∷ names) = (tt, each_driver names)

pub each_at : {X : Type 0} (P : X → Type 0) (xs : List X) (i : ℕ) (x : X) → AllByRecursion P xs → slice_get xs i ≡ Some x → P x
each_at P [] i x all at = absurd cc
each_at P (y ∷ ys) zero x all at = subst P (same_from_some y x at) all.0
each_at P (y ∷ ys) (suc i) x all at = each_at P ys i x all.1 at

module _ (old : Database) (m : Migrate) where
  units_armed : AllByRecursion IsOfArmed (units_of old m)
  units_armed =
      let kept : List (Target × Arm) = filter (λ p. not (is_by_row (arm_kind old p.1))) (arms_of m) in
      each_append IsOfArmed (map rows_unit (drivers_of old m)) (map (λ p. values_unit p.0 p.1) kept) (each_driver (drivers_of old m))
      (each_of_map IsOfArmed (λ (p : Target × Arm). IsArmed p.0) (λ p. values_unit p.0 p.1) (λ p armed. armed) kept
      (each_kept (λ (p : Target × Arm). IsArmed p.0) (λ p. not (is_by_row (arm_kind old p.1))) (arms_of m) (each_target m.targets)))

  -- a unit that is there
  pub unit_armed : (number : ℕ) (unit : UnitForm) → slice_get (units_of old m) number ≡ Some unit → IsOfArmed unit
  unit_armed number unit at = each_at IsOfArmed (units_of old m) number unit units_armed at

  abbrev pub HasArmedTarget : Target × List Value → Type 0
  HasArmedTarget p = IsArmed p.0

  rows_armed : (unit : UnitForm) → IsOfArmed unit → (place : Place) → AllByRecursion HasArmedTarget (part_at old m unit place)
  rows_armed (rows_unit driver) armed (Row at) =
      each_of_blocks HasArmedTarget (λ (p : Target × Arm). IsArmed p.0) (λ p. map (λ row. (p.0, row)) (rows_driven old p.1 (arm_kind old p.1) driver at))
      (λ p its. each_paired p.0 its (rows_driven old p.1 (arm_kind old p.1) driver at)) (arms_of m) (each_target m.targets)
  rows_armed (rows_unit driver) armed (Group value) = tt
  rows_armed (values_unit target arm) armed (Row at) = tt
  rows_armed (values_unit target arm) armed (Group value) = each_paired target armed (arm_rows old arm (from_with old arm (arm_kind old arm) value) (join_with old arm value))

  -- a part's rows are of armed targets
  pub part_armed : (g : Granule) → AllByRecursion HasArmedTarget (part_of old m g)
  part_armed g = of (slice_get (units_of old m) g.unit) refl
    where
      of : (found : Option UnitForm) → slice_get (units_of old m) g.unit ≡ found → AllByRecursion HasArmedTarget (unwrap_or (option_map (λ unit. part_at old m unit g.place) found) [])
      of None at = tt
      of (Some unit) at = rows_armed unit (unit_armed g.unit unit at) g.place

-- the number of an armed target is that of a target
pub armed_within : (m : Migration) (number : ℕ) → IsArmed (target_at m number) → number < length m.plan.migrate.targets
armed_within m number armed = elim (cases_Bool (nat_lt number (length m.plan.migrate.targets))) [
  | inl within ↦ grind (arith, nat_tests)
  | inr past ↦
      let beyond : length m.plan.migrate.targets ≤ number = grind (arith, nat_tests) in
      let none : length (target_at m number).arms ≡ 0 = ap (λ (t : Target). length t.arms) (get_or_past m.plan.migrate.targets number _ beyond) in
      absurd (omega (arith, armed, none))
]
