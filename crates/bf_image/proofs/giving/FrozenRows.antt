-- Whether the arms of a frozen unit that goes by rows make a row of a target of a row of its driver.
use Rattle.std.proofs.Common.{◌≡◌, ◌≢◌, ℕ, ◌+◌, ◌<◌, ◌≤◌, Bool, true, false, List, [], ◌∷◌, length, get_or, slice_index_or, take, Some, None, sym, ap, subst, ◌∙◌, arith}
use Rattle.std.specs.Prelude.{slice_get}
use Rattle.std.specs.List.{list_any}
use Rattle.bf_base.specs.declared.granule.Place.TheVariants.{Row}
use Rattle.bf_base.specs.declared.value.Value.{Value}
use Rattle.bf_tree.specs.declared.migration.Arm.{Arm}
use Rattle.bf_tree.specs.declared.plan.ArmKind.TheVariants.{ByFrom, ByJoin}
use Rattle.bf_sql.specs.Database.{table_rows}
use Rattle.bf_sql.specs.migrations.Granules.{granule, part_at, rows_unit}
use Rattle.bf_sql.specs.migrations.Images.{arm_rows}
use Rattle.bf_sql.specs.migrations.Plans.{rows_unit_of}
use Rattle.bf_sql.specs.migrations.Targets.{arm_kind}
use Rattle.bf_image.specs.BoundArms.{IsFound, IsFrozenArm, arm_at}
use Rattle.bf_image.specs.FrozenUnits.{IsFrozenUnit}
use Rattle.bf_image.specs.Giving.{gives_row, has_any, has_row_of}
use Rattle.bf_image.specs.Lookup.{from_rows_met, join_rows_met}
use Rattle.bf_image.specs.Migrations.{IsLawfulMigration, old_of}
use Rattle.bf_image.specs.declared.arms.FrozenArm.{FrozenArm}
use Rattle.bf_image.specs.declared.frozen_unit.FrozenUnit.{FrozenUnit}
use Rattle.bf_image.specs.declared.migration.Migration.{Migration}
use Rattle.bf_image.proofs.giving.DriverRows.{gives_by, gives_here, none_here, none_of_other, none_given}
use Rattle.bf_image.proofs.parting.FoundArms.{as_many, found_at}
use Rattle.bf_image.proofs.parting.UnitTables.{HasDriver, arms_planned}
use Rattle.bf_image.proofs.parting.DriverRows.{part_past}
use Rattle.bf_image.proofs.parting.OldTables.{row_at_found}
use Rattle.bf_image.proofs.parting.UnitParts.{part, part_by_rows}
use Rattle.bf_image.proofs.parting.UnitRows.{bound_here, pair}

module _ (unit : FrozenUnit) (whole : IsFrozenUnit unit) (has : HasDriver unit) (at : ℕ) where
  abbrev m : Migration
  m = unit.migration.now

  abbrev driver : List ℕ
  driver = has.goes.planned.driver

  abbrev arms : List (ℕ × ℕ)
  arms = has.goes.planned.arms

  planned : arms ≡ (rows_unit_of (old_of m) m.plan.migrate driver).arms
  planned = arms_planned m unit.number unit.arms.items has.driver.now has.goes whole.lawful

  part_here : part m unit.number (Row at) ≡ part_at (old_of m) m.plan.migrate (rows_unit driver) (Row at)
  part_here = part_by_rows m whole.lawful unit.number at has.goes.planned has.goes.there has.goes.by_rows

  -- past the driver's rows the unit gives none
  pub gives_past : (target : ℕ) → slice_get has.driver.now.rows at ≡ None → false ≡ gives_row unit.migration.now target (granule unit.number (Row at))
  gives_past target past =
      let none = row_at_found m driver has.driver.now has.goes.driven at None past in
      sym (ap (has_row_of m target) (part_here ∙ part_past (old_of m) m.plan.migrate driver at whole.lawful.lawful none))

  module _ (target : ℕ) (there : target < length unit.migration.now.plan.migrate.targets)
      (row : List Value) (at_row : slice_get (table_rows (old_of unit.migration.now) has.goes.planned.driver) at ≡ Some row)
      (items : List FrozenArm) (same : items ≡ unit.arms.items) (i : ℕ) where
    many : length arms ≡ length items
    many = as_many m arms unit.arms.items has.goes.found ∙ sym (ap length same)

    -- the arms so far make no such row
    abbrev pub NoneOf : ℕ → Type 0
    NoneOf n = list_any (gives_by unit.migration.now has.goes.planned.driver target at) (take n has.goes.planned.arms) ≡ false

    module _ (bound : FrozenArm) (within : i < length items) (is : bound ≡ slice_index_or items i bound) where
      within_arms : i < length arms
      within_arms = omega (arith, many, within)

      abbrev here : ℕ × ℕ
      here = pair m driver arms planned i within_arms

      found : IsFound m here.0 (arm_at m here.0 here.1) (Some bound)
      found =
          let it = found_at m arms unit.arms.items i bound has.goes.found (subst (λ bs. i < length bs) same within) in
          subst (λ b. IsFound m here.0 (arm_at m here.0 here.1) (Some b)) (sym is)
          (subst (λ bs. IsFound m here.0 (arm_at m here.0 here.1) (Some (get_or bs i bound))) (sym same) it)

      its_target : bound.target ≡ here.0
      its_target = (bound_here m driver arms planned i within_arms bound found).of_target

      -- an arm of another target makes none of it
      pub none_of_others : bound.target ≢ target → NoneOf i → NoneOf (i + 1)
      none_of_others other so_far = none_of_other m whole.lawful driver target there arms planned at row at_row i within_arms (λ own. other (its_target ∙ own)) so_far

      -- and one of the target what it makes of the driver's row
      module _ (any : Bool)
          (from : (m : Migration) (target : ℕ) (arm : Arm) → IsLawfulMigration m → IsFrozenArm m target arm bound → arm_kind (old_of m) arm ≡ ByFrom
          → any ≡ has_any (arm_rows (old_of m) arm (row ∷ []) (join_rows_met (old_of m) arm row)))
          (join : (m : Migration) (target : ℕ) (arm : Arm) → IsLawfulMigration m → IsFrozenArm m target arm bound → arm_kind (old_of m) arm ≡ ByJoin
          → any ≡ has_any (arm_rows (old_of m) arm (from_rows_met (old_of m) arm row) (row ∷ []))) where
        bound_as : (arm : Arm) → arm_at m here.0 here.1 ≡ Some arm → IsFrozenArm m here.0 arm bound
        bound_as arm at_arm = subst (λ o. IsFound m here.0 o (Some bound)) at_arm found

        pub unit_gives : bound.target ≡ target → any ≡ true → true ≡ gives_row unit.migration.now target (granule unit.number (Row at))
        unit_gives own some =
            gives_here m whole.lawful driver target there arms planned at row at_row i within_arms any
            (λ arm at_arm. from m here.0 arm whole.lawful (bound_as arm at_arm)) (λ arm at_arm. join m here.0 arm whole.lawful (bound_as arm at_arm)) (sym its_target ∙ own) some
            ∙ ap (has_row_of m target) (sym part_here)

        pub none_made : any ≡ false → NoneOf i → NoneOf (i + 1)
        none_made none so_far =
            none_here m whole.lawful driver target there arms planned at row at_row i within_arms any
            (λ arm at_arm. from m here.0 arm whole.lawful (bound_as arm at_arm)) (λ arm at_arm. join m here.0 arm whole.lawful (bound_as arm at_arm)) none so_far

    -- where no arm makes such a row the unit gives none
    pub none_at_all : length items ≤ i → NoneOf i → false ≡ gives_row unit.migration.now target (granule unit.number (Row at))
    none_at_all past so_far =
        none_given m whole.lawful driver target there arms planned at row at_row i (omega (arith, many, past)) so_far
        ∙ ap (has_row_of m target) (sym part_here)
