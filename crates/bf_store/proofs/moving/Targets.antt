-- Whatever is true of each target of a migration is true of the target of each row of a granule.
use Rattle.std.proofs.Common.{◌≡◌, ℕ, not, List, [], ◌∷◌, map, filter, flat_map, Option, Some, None, option_map, unwrap_or, refl}
use Rattle.std.specs.Prelude.{slice_get}
use Rattle.std.specs.List.{AllByRecursion}
use Rattle.bf_base.specs.declared.granule.Place.{Place}
use Rattle.bf_base.specs.declared.granule.Place.TheVariants.{Row, Group}
use Rattle.bf_base.specs.declared.granule.Granule.{Granule}
use Rattle.bf_base.specs.declared.value.Value.{Value}
use Rattle.bf_tree.specs.declared.migration.Arm.{Arm}
use Rattle.bf_tree.specs.declared.migration.Migrate.{Migrate}
use Rattle.bf_tree.specs.declared.migration.Target.{Target}
use Rattle.bf_sql.specs.Database.{Database}
use Rattle.bf_sql.specs.migrations.Granules.{UnitForm, rows_unit, values_unit, arms_of, units_of, part_at, part_of, rows_driven, from_with, join_with}
use Rattle.bf_sql.specs.migrations.Images.{arm_rows}
use Rattle.bf_sql.specs.migrations.MigrationObjections.{drivers_of, is_by_row}
use Rattle.bf_sql.specs.migrations.Targets.{arm_kind}
use Rattle.bf_image.proofs.owning.Armed.{each_at}
use Rattle.bf_image.proofs.planning.Numbered.{each_append, each_of_blocks, each_of_map, each_kept}

module _ (P : Target → Type 0) where
  each_paired : {X : Type 0} (t : Target) → P t → (xs : List X) → AllByRecursion (λ (p : Target × X). P p.0) (map (λ x. (t, x)) xs)
  each_paired t its [] = tt
  each_paired t its (x ∷ xs) = (its, each_paired t its xs)

  abbrev IsOf : UnitForm → Type 0
  IsOf (rows_unit driver) = Unit {0}
  IsOf (values_unit target arm) = P target

  each_driver : (names : List (List ℕ)) → AllByRecursion IsOf (map rows_unit names)
  each_driver [] = tt
  each_driver (name ∷ names) = (tt, each_driver names)

  module _ (old : Database) (m : Migrate) (each : AllByRecursion P m.targets) where
    arms_of_each : AllByRecursion (λ (p : Target × Arm). P p.0) (arms_of m)
    arms_of_each = each_of_blocks (λ (p : Target × Arm). P p.0) P (λ t. map (λ arm. (t, arm)) t.arms) (λ t its. each_paired t its t.arms) m.targets each

    units_of_each : AllByRecursion IsOf (units_of old m)
    units_of_each =
        let kept : List (Target × Arm) = filter (λ p. not (is_by_row (arm_kind old p.1))) (arms_of m) in
        each_append IsOf (map rows_unit (drivers_of old m)) (map (λ p. values_unit p.0 p.1) kept) (each_driver (drivers_of old m))
        (each_of_map IsOf (λ (p : Target × Arm). P p.0) (λ p. values_unit p.0 p.1) (λ p its. its) kept
        (each_kept (λ (p : Target × Arm). P p.0) (λ p. not (is_by_row (arm_kind old p.1))) (arms_of m) arms_of_each))

    abbrev IsRowOf : Target × List Value → Type 0
    IsRowOf p = P p.0

    rows_of_each : (unit : UnitForm) → IsOf unit → (place : Place) → AllByRecursion IsRowOf (part_at old m unit place)
    rows_of_each (rows_unit driver) its (Row at) =
        each_of_blocks IsRowOf (λ (p : Target × Arm). P p.0) (λ p. map (λ row. (p.0, row)) (rows_driven old p.1 (arm_kind old p.1) driver at))
        (λ p its. each_paired p.0 its (rows_driven old p.1 (arm_kind old p.1) driver at)) (arms_of m) arms_of_each
    rows_of_each (rows_unit driver) its (Group value) = tt
    rows_of_each (values_unit target arm) its (Row at) = tt
    rows_of_each (values_unit target arm) its (Group value) = each_paired target its (arm_rows old arm (from_with old arm (arm_kind old arm) value) (join_with old arm value))

    part_of_each : (g : Granule) → AllByRecursion IsRowOf (part_of old m g)
    part_of_each g = of (slice_get (units_of old m) g.unit) refl
      where
        of : (found : Option UnitForm) → slice_get (units_of old m) g.unit ≡ found → AllByRecursion IsRowOf (unwrap_or (option_map (λ unit. part_at old m unit g.place) found) [])
        of None at = tt
        of (Some unit) at = rows_of_each unit (each_at IsOf (units_of old m) g.unit unit units_of_each at) g.place

    pub parts_of_each : (gs : List Granule) → AllByRecursion IsRowOf (flat_map (part_of old m) gs)
    parts_of_each [] = tt
    parts_of_each (g ∷ gs) = each_append IsRowOf (part_of old m g) (flat_map (part_of old m) gs) (part_of_each g) (parts_of_each gs)
