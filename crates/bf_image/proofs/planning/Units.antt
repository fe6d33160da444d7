-- The units of a lawful migration by their numbers.
use Rattle.std.proofs.Common.{◌≡◌, ℕ, zero, suc, ◌≤◌, Bool, true, false, not, cond, List, [], ◌∷◌, map, filter, length, Some, None, ◌⊎◌, inl, inr, refl, sym, ap, ◌∙◌, subst, arith}
use Rattle.std.specs.Prelude.{Option, option_map, slice_get, slice_index_or}
use Rattle.std.specs.List.{AllByRecursion, Contains}
use Rattle.std.specs.Option.{option_and_then}
use Rattle.std.proofs.lemmas.Bool.{not-true}
use Rattle.std.proofs.lemmas.List.{length-map}
use Rattle.std.proofs.lemmas.Option.{slice_get-map, slice_get_past}
use Rattle.bf_tree.specs.declared.migration.Arm.{Arm}
use Rattle.bf_tree.specs.declared.migration.Migrate.{Migrate}
use Rattle.bf_tree.specs.declared.migration.Target.{Target}
use Rattle.bf_tree.specs.declared.plan.Plan.{Plan}
use Rattle.bf_tree.specs.declared.plan.Unit.{Unit as Planned}
use Rattle.bf_tree.specs.declared.plan.UnitKind.{UnitKind}
use Rattle.bf_tree.specs.declared.plan.UnitKind.TheVariants.{Rows, Groups, Joins}
use Rattle.bf_tree.specs.declared.plan.ArmKind.{ArmKind}
use Rattle.bf_tree.specs.declared.plan.ArmKind.TheVariants.{ByFrom, ByJoin, ByPair, ByGroup}
use Rattle.bf_sql.specs.Database.{Database}
use Rattle.bf_sql.specs.migrations.Granules.{rows_unit, values_unit}
use Rattle.bf_sql.specs.migrations.MigrationObjections.{drivers_of, is_by_row}
use Rattle.bf_sql.specs.migrations.Plans.{kind_by_values, numbered_arms, planned_units, rows_unit_of, values_unit_of}
use Rattle.bf_sql.specs.migrations.Targets.{arm_kind}
use Rattle.bf_image.specs.BoundArms.{IsFound, IsFrozenArm, IsOfUnit, arm_at}
use Rattle.bf_image.specs.Migrations.{IsLawfulMigration, old_of, unit_at, units_in}
use Rattle.bf_image.specs.PlannedUnits.{arm_named, form_by, target_named, unit_form, values_form}
use Rattle.bf_image.specs.declared.arms.FrozenArm.{FrozenArm}
use Rattle.bf_image.specs.declared.migration.Migration.{Migration}
use Rattle.bf_image.proofs.planning.Driven.{IsNamed, arm_among, named_from_numbered, target_among}
use Rattle.bf_image.proofs.planning.Few.{few_units}
use Rattle.bf_image.proofs.planning.Numbered.{IsNumbered, all_numbered, each_append, each_of_map, named_by_numbers}
use Rattle.bf_image.proofs.planning.Planned.{units_planned}

each_at : {X : Type 0} (P : X → Type 0) (xs : List X) (n : ℕ) (x : X) → AllByRecursion P xs → slice_get xs n ≡ Some x → P x
each_at P [] n x h e = absurd cc
each_at P (y ∷ ys) zero x h e = let same : y ≡ x = cc in subst P same h.0
each_at P (y ∷ ys) (suc n) x h e = each_at P ys n x h.1 e

each_made : {X Y : Type 0} (P : Y → Type 0) (f : X → Y) → ((x : X) → P (f x)) → (xs : List X) → AllByRecursion P (map f xs)
each_made P f one [] = tt
each_made P f one (x ∷ xs) = (one x, each_made P f one xs)

each_passes : {X : Type 0} (P : X → Type 0) (test : X → Bool) (xs : List X) → AllByRecursion P xs → AllByRecursion (λ x. P x × (test x ≡ true)) (filter test xs)
each_passes P test [] h = tt
each_passes P test (x ∷ xs) h = of (test x) refl (each_passes P test xs h.1)
  where
    of : (b : Bool) → test x ≡ b → AllByRecursion (λ x. P x × (test x ≡ true)) (filter test xs) → AllByRecursion (λ x. P x × (test x ≡ true)) (cond b (x ∷ filter test xs) (filter test xs))
    of true at rest = ((h.0, at), rest)
    of false at rest = rest

-- the one arm of a unit that goes by values
pub record HasOneArm (old : Database) (m : Migrate) (arms : List (ℕ × ℕ)) : Type 0 where
  pub pair : ℕ × ℕ
  pub one : arms ≡ pair ∷ []
  pub named : IsNamed m pair
  pub by_values : is_by_row (arm_kind old (arm_named m pair)) ≡ false

module _ (old : Database) (m : Migrate) where
  -- PLANNED: a unit by rows is that of its driver, and any other has one arm
  abbrev pub IsPlannedAs : UnitKind → Planned → Type 0
  IsPlannedAs Rows unit = unit ≡ rows_unit_of old m unit.driver
  IsPlannedAs Groups unit = HasOneArm old m unit.arms
  IsPlannedAs Joins unit = HasOneArm old m unit.arms

  abbrev goes_by_values : (ℕ × ℕ) × Arm → Bool
  goes_by_values q = not (is_by_row (arm_kind old q.1))

  one_arm : (q : (ℕ × ℕ) × Arm) → IsNumbered m q × (goes_by_values q ≡ true) → IsPlannedAs (values_unit_of old m q).kind (values_unit_of old m q)
  one_arm q numbered = of (arm_kind old q.1)
    where
      only : HasOneArm old m (q.0 ∷ [])
      only = record { pair = q.0; one = refl; named = named_from_numbered m q numbered.0; by_values = ap (λ arm. is_by_row (arm_kind old arm)) (named_by_numbers m q numbered.0) ∙ not-true _ numbered.1 }

      of : (kind : ArmKind) → IsPlannedAs (kind_by_values kind) (record { kind = kind_by_values kind; driver = q.1.from; arms = q.0 ∷ [] })
      of ByFrom = only
      of ByJoin = only
      of ByPair = only
      of ByGroup = only

  all_planned : AllByRecursion (λ unit. IsPlannedAs unit.kind unit) (planned_units old m)
  all_planned =
      each_append (λ unit. IsPlannedAs unit.kind unit) (map (rows_unit_of old m) (drivers_of old m)) (map (values_unit_of old m) (filter goes_by_values (numbered_arms m)))
      (each_made (λ unit. IsPlannedAs unit.kind unit) (rows_unit_of old m) (λ driver. refl) (drivers_of old m))
      (each_of_map (λ unit. IsPlannedAs unit.kind unit) (λ q. IsNumbered m q × (goes_by_values q ≡ true)) (values_unit_of old m) one_arm (filter goes_by_values (numbered_arms m)) (each_passes (IsNumbered m) goes_by_values (numbered_arms m) (all_numbered m)))

module _ (m : Migration) where
  -- an arm is at the numbers that name it
  pub arm_at_named : (pair : ℕ × ℕ) → IsNamed m.plan.migrate pair → arm_at m pair.0 pair.1 ≡ Some (arm_named m.plan.migrate pair)
  arm_at_named pair named = ap (option_and_then (λ (t : Target). slice_get t.arms pair.1)) named.of ∙ named.at

  module _ (lawful : IsLawfulMigration m) where
    pub plan_units : m.plan.units ≡ planned_units (old_of m) m.plan.migrate
    plan_units = ap (λ (p : Plan). p.units) lawful.planned

    pub units_stand_for : map (unit_form m.plan.migrate) m.plan.units ≡ units_in m
    units_stand_for = ap (map (unit_form m.plan.migrate)) plan_units ∙ units_planned (old_of m) m.plan.migrate

    pub unit_at_number : (number : ℕ) → unit_at m number ≡ option_map (unit_form m.plan.migrate) (slice_get m.plan.units number)
    unit_at_number number = ap (λ us. slice_get us number) (sym units_stand_for) ∙ slice_get-map (unit_form m.plan.migrate) m.plan.units number

    pub units_few : length m.plan.units ≤ 12
    units_few =
        let same = length-map m.plan.units (unit_form m.plan.migrate) in
        let stand = ap length units_stand_for in
        let few = few_units (old_of m) m.plan.migrate lawful.lawful.unobjected lawful.narrow in
        omega (arith, same, stand, few)

    pub planned_as : (number : ℕ) (unit : Planned) → slice_get m.plan.units number ≡ Some unit → (kind : UnitKind) → unit.kind ≡ kind → IsPlannedAs (old_of m) m.plan.migrate kind unit
    planned_as number unit at kind is =
        let planned = each_at (λ u. IsPlannedAs (old_of m) m.plan.migrate u.kind u) (planned_units (old_of m) m.plan.migrate) number unit (all_planned (old_of m) m.plan.migrate) (ap (λ us. slice_get us number) (sym plan_units) ∙ at) in
        subst (λ k. IsPlannedAs (old_of m) m.plan.migrate k unit) is planned

    -- a unit that goes by values has one arm, and stands for it
    pub by_values : (number : ℕ) (unit : Planned) → slice_get m.plan.units number ≡ Some unit → (unit.kind ≡ Groups) ⊎ (unit.kind ≡ Joins) → HasOneArm (old_of m) m.plan.migrate unit.arms
    by_values number unit at (inl is) = planned_as number unit at Groups is
    by_values number unit at (inr is) = planned_as number unit at Joins is

    form_by_values : (unit : Planned) → (unit.kind ≡ Groups) ⊎ (unit.kind ≡ Joins) → unit_form m.plan.migrate unit ≡ values_form m.plan.migrate (slice_index_or unit.arms 0 (0, 0))
    form_by_values unit (inl is) = ap (λ k. form_by m.plan.migrate k unit.driver unit.arms) is
    form_by_values unit (inr is) = ap (λ k. form_by m.plan.migrate k unit.driver unit.arms) is

    pub no_first : (number : ℕ) (unit : Planned) → slice_get m.plan.units number ≡ Some unit → (unit.kind ≡ Groups) ⊎ (unit.kind ≡ Joins) → None ≡ slice_get unit.arms 0 → ⊥
    no_first number unit at is none =
        let only = by_values number unit at is in
        let some : slice_get unit.arms 0 ≡ Some only.pair = ap (λ ps. slice_get ps 0) only.one in
        absurd cc

    -- a unit by rows has no arm by values, and neither has one that is not there
    pub none_by_rows : (number : ℕ) (unit : Planned) → slice_get m.plan.units number ≡ Some unit → unit.kind ≡ Rows → IsOfUnit m (unit_at m number) None
    none_by_rows number unit at is =
        let here : unit_at m number ≡ Some (rows_unit unit.driver) = unit_at_number number ∙ ap (option_map (unit_form m.plan.migrate)) at ∙ ap (λ k. Some (form_by m.plan.migrate k unit.driver unit.arms)) is in
        subst (λ o. IsOfUnit m o None) (sym here) tt

    pub none_past : (number : ℕ) → length m.plan.units ≤ number → IsOfUnit m (unit_at m number) None
    none_past number past =
        let here : unit_at m number ≡ None = unit_at_number number ∙ ap (option_map (unit_form m.plan.migrate)) (slice_get_past m.plan.units number past) in
        subst (λ o. IsOfUnit m o None) (sym here) tt

    found_of_unit : (pair : ℕ × ℕ) (found : Option FrozenArm) → IsFound m pair.0 (Some (arm_named m.plan.migrate pair)) found → IsOfUnit m (Some (values_form m.plan.migrate pair)) found
    found_of_unit pair None is = absurd is
    found_of_unit pair (Some bound) is =
        (subst (λ t. IsFrozenArm m t (arm_named m.plan.migrate pair) bound) (sym is.of_target) is, ap (target_named m.plan.migrate) is.of_target)

    -- what is found at the first pair of numbers of a unit is the unit's arm
    pub arm_of_unit : (number : ℕ) (unit : Planned) (pair : ℕ × ℕ) (found : Option FrozenArm)
        → slice_get m.plan.units number ≡ Some unit → (unit.kind ≡ Groups) ⊎ (unit.kind ≡ Joins) → slice_get unit.arms 0 ≡ Some pair → IsFound m pair.0 (arm_at m pair.0 pair.1) found → IsOfUnit m (unit_at m number) found
    arm_of_unit number unit pair found at kind first is =
        let only = by_values number unit at kind in
        let is_one : Some only.pair ≡ Some pair = ap (λ ps. slice_get ps 0) (sym only.one) ∙ first in
        let same : only.pair ≡ pair = cc in
        let named : IsNamed m.plan.migrate pair = subst (IsNamed m.plan.migrate) same only.named in
        let front : slice_index_or unit.arms 0 (0, 0) ≡ pair = ap (λ ps. slice_index_or ps 0 (0, 0)) only.one ∙ same in
        let here : unit_at m number ≡ Some (values_form m.plan.migrate pair) = unit_at_number number ∙ ap (option_map (unit_form m.plan.migrate)) at ∙ ap Some (form_by_values unit kind ∙ ap (values_form m.plan.migrate) front) in
        subst (λ o. IsOfUnit m o found) (sym here) (found_of_unit pair found (subst (λ o. IsFound m pair.0 o found) (arm_at_named pair named) is))

    -- the target and the arm of a unit by values are the migration's
    pub record IsUnitOf (target : Target) (arm : Arm) : Type 0 where
      pub target_among : Contains m.plan.migrate.targets target
      pub arm_among : Contains target.arms arm
      pub by_values : is_by_row (arm_kind (old_of m) arm) ≡ false

    pub unit_among : (number : ℕ) (target : Target) (arm : Arm) → unit_at m number ≡ Some (values_unit target arm) → IsUnitOf target arm
    unit_among number target arm e = of (slice_get m.plan.units number) refl (sym (unit_at_number number) ∙ e)
      where
        one : (pair : ℕ × ℕ) → IsNamed m.plan.migrate pair → is_by_row (arm_kind (old_of m) (arm_named m.plan.migrate pair)) ≡ false → values_form m.plan.migrate pair ≡ values_unit target arm → IsUnitOf target arm
        one pair named by same =
            let same_target : target_named m.plan.migrate pair.0 ≡ target = cc in
            let same_arm : arm_named m.plan.migrate pair ≡ arm = cc in
            record {
              target_among = subst (Contains m.plan.migrate.targets) same_target (target_among m.plan.migrate pair named);
              arm_among = subst (λ (t : Target). Contains t.arms arm) same_target (subst (Contains (target_named m.plan.migrate pair.0).arms) same_arm (arm_among m.plan.migrate pair named));
              by_values = ap (λ a. is_by_row (arm_kind (old_of m) a)) (sym same_arm) ∙ by;
            }

        values : (unit : Planned) → slice_get m.plan.units number ≡ Some unit → (unit.kind ≡ Groups) ⊎ (unit.kind ≡ Joins) → unit_form m.plan.migrate unit ≡ values_unit target arm → IsUnitOf target arm
        values unit at is form =
            let only = by_values number unit at is in
            let front : slice_index_or unit.arms 0 (0, 0) ≡ only.pair = ap (λ ps. slice_index_or ps 0 (0, 0)) only.one in
            one only.pair only.named only.by_values (ap (values_form m.plan.migrate) (sym front) ∙ sym (form_by_values unit is) ∙ form)

        of_kind : (unit : Planned) (kind : UnitKind) → unit.kind ≡ kind → slice_get m.plan.units number ≡ Some unit → unit_form m.plan.migrate unit ≡ values_unit target arm → IsUnitOf target arm
        of_kind unit Rows is at form = let rows : rows_unit unit.driver ≡ values_unit target arm = ap (λ k. form_by m.plan.migrate k unit.driver unit.arms) (sym is) ∙ form in absurd cc
        of_kind unit Groups is at form = values unit at (inl is) form
        of_kind unit Joins is at form = values unit at (inr is) form

        of : (o : Option Planned) → slice_get m.plan.units number ≡ o → option_map (unit_form m.plan.migrate) o ≡ Some (values_unit target arm) → IsUnitOf target arm
        of None at none = absurd cc
        of (Some unit) at there = let form : unit_form m.plan.migrate unit ≡ values_unit target arm = cc in of_kind unit unit.kind refl at form
