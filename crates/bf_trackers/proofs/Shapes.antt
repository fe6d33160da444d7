-- What the units of a lawful migration go by, one after the other.
use Rattle.std.proofs.Common.{◌≡◌, ℕ, suc, zero, ◌+◌, ◌<◌, ◌≤◌, List, [], ◌∷◌, ◌++◌, length, take, refl, sym, ap, ◌∙◌, arith, Option, Some, None}
use Rattle.std.specs.List.{range_with_len}
use Rattle.std.specs.Option.{option_map, unwrap_or}
use Rattle.std.proofs.Math.Seq.{take-length}
use Rattle.std.proofs.lemmas.List.{length-map}
use Rattle.std.proofs.lemmas.Option.{none-some, slice_get-map}
use Rattle.bf_base.specs.declared.granule.Place.TheVariants.{Row}
use Rattle.bf_sql.specs.Database.{table_rows}
use Rattle.bf_sql.specs.migrations.Granules.{UnitForm, rows_unit, values_unit, anchors_of}
use Rattle.bf_image.specs.BoundArms.{IsOfUnit}
use Rattle.bf_image.specs.Migrations.{IsLawfulMigration, anchors_in, old_of, unit_at, units_in}
use Rattle.bf_image.specs.PlannedUnits.{unit_form}
use Rattle.bf_image.specs.declared.arms.FrozenArm.{FrozenArm}
use Rattle.bf_image.specs.declared.migration.Migration.{Migration}
use Rattle.bf_image.proofs.planning.Units.{unit_at_number, units_few, units_stand_for}
use Rattle.bf_trackers.specs.declared.units.Shape.{Shape}
use Rattle.bf_trackers.specs.declared.units.Shape.TheVariants as shape
use Rattle.bf_trackers.specs.Migrations.{shape_in, shapes_of}
use Rattle.bf_trackers.proofs.Lists.{get_there, take_one}

length_range : (first count : ℕ) → length (range_with_len first count) ≡ count
length_range first zero = refl
length_range first (suc count) = ap suc (length_range (first + 1) count)

module _ (m : Migration) where
  by_values : (o : Option UnitForm) (bound : FrozenArm) → IsOfUnit m o (Some bound) → option_map (shape_in (old_of m)) o ≡ Some shape.Keys
  by_values None bound is = absurd is
  by_values (Some (rows_unit driver)) bound is = absurd is
  by_values (Some (values_unit target arm)) bound is = refl

  by_rows : (o : Option UnitForm) (form : UnitForm) → o ≡ Some form → IsOfUnit m o None → option_map (shape_in (old_of m)) o ≡ Some (shape.Rows (unwrap_or (option_map (λ u. length (anchors_of (old_of m) u)) o) 0))
  by_rows None form e is = absurd (none-some form e)
  by_rows (Some (rows_unit driver)) form e is =
      ap (λ n. Some (shape.Rows n)) (sym (length-map (range_with_len 0 (length (table_rows (old_of m) driver))) Row ∙ length_range 0 (length (table_rows (old_of m) driver))))
  by_rows (Some (values_unit target arm)) form e is = absurd is

  pub keys_shape : (number : ℕ) (bound : FrozenArm) → IsOfUnit m (unit_at m number) (Some bound) → option_map (shape_in (old_of m)) (unit_at m number) ≡ Some shape.Keys
  keys_shape number bound is = by_values (unit_at m number) bound is

  module _ (lawful : IsLawfulMigration m) where
    pub rows_shape : (number : ℕ) → number < length m.plan.units → IsOfUnit m (unit_at m number) None → option_map (shape_in (old_of m)) (unit_at m number) ≡ Some (shape.Rows (anchors_in m number))
    rows_shape number less is =
        let there = get_there m.plan.units number less in
        by_rows (unit_at m number) (unit_form m.plan.migrate there.0) (unit_at_number m lawful number ∙ ap (option_map (unit_form m.plan.migrate)) there.1) is

    length_of_shapes : length (shapes_of m) ≡ length m.plan.units
    length_of_shapes = length-map (units_in m) (shape_in (old_of m)) ∙ ap length (sym (units_stand_for m lawful)) ∙ length-map m.plan.units (unit_form m.plan.migrate)

    pub next_shape : (number : ℕ) (shapes pushed : List Shape) (one : Shape) → pushed ≡ shapes ++ one ∷ [] → shapes ≡ take number (shapes_of m) → option_map (shape_in (old_of m)) (unit_at m number) ≡ Some one → pushed ≡ take (number + 1) (shapes_of m)
    next_shape number shapes pushed one is made its =
        is ∙ ap (λ all. all ++ one ∷ []) made ∙ sym (take_one (shapes_of m) number one (slice_get-map (shape_in (old_of m)) (units_in m) number ∙ its))

    pub all_shapes : take (length m.plan.units) (shapes_of m) ≡ shapes_of m
    all_shapes = ap (λ n. take n (shapes_of m)) (sym length_of_shapes) ∙ take-length (shapes_of m)

    pub few_shapes : length (shapes_of m) ≤ 256
    few_shapes = (let same = length_of_shapes in let few = units_few m lawful in omega arith)
