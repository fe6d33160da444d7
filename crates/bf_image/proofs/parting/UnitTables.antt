-- A unit's old tables, looked up once.
use Rattle.std.proofs.Common.{◌≡◌, ℕ, ◌+◌, ◌<◌, ◌≤◌, List, [], ◌∷◌, ◌++◌, map, length, get_or, take, IsSome, IsTrue, Option, Some, None, Bor, refl, sym, ap, subst, ◌∙◌, arith}
use Rattle.std.specs.Prelude.{option_map, slice_get}
use Rattle.std.specs.List.{flat_map}
use Rattle.std.specs.Option.{option_and_then}
use Rattle.std.proofs.lemmas.List.{take_all}
use Rattle.std.proofs.lemmas.Option.{slice_get_past}
use Rattle.bf_base.specs.declared.granule.Place.TheVariants.{Row}
use Rattle.bf_base.specs.declared.value.Value.{Value}
use Rattle.bf_heap.specs.Heaps.{Entry}
use Rattle.bf_tree.specs.declared.migration.Arm.{Arm}
use Rattle.bf_tree.specs.declared.migration.Target.{Target}
use Rattle.bf_tree.specs.declared.plan.ArmKind.TheVariants.{ByFrom, ByJoin}
use Rattle.bf_tree.specs.declared.plan.Unit.{Unit as Planned}
use Rattle.bf_tree.specs.declared.plan.UnitKind.TheVariants.{Rows}
use Rattle.bf_sql.specs.Database.{table_rows}
use Rattle.bf_sql.specs.migrations.Granules.{granule}
use Rattle.bf_sql.specs.migrations.Images.{arm_rows}
use Rattle.bf_sql.specs.migrations.MigrationObjections.{is_by_row}
use Rattle.bf_sql.specs.migrations.Plans.{rows_unit_of}
use Rattle.bf_sql.specs.migrations.Targets.{arm_kind}
use Rattle.bf_image.specs.ArmRows.{CanMake}
use Rattle.bf_image.specs.BoundArms.{IsFound, IsFrozenArm, arm_at}
use Rattle.bf_image.specs.FrozenUnits.{AreFound, GoesByRows, IsDriven, IsFrozenUnit, IsRowAt}
use Rattle.bf_image.specs.Lookup.{from_rows_met, join_rows_met}
use Rattle.bf_image.specs.Migrations.{AreBehind, IsLawfulMigration, IsPartBehind, old_of, source_of}
use Rattle.bf_image.specs.PlannedUnits.{arm_named}
use Rattle.bf_image.specs.declared.arms.FrozenArm.{FrozenArm}
use Rattle.bf_image.specs.declared.frozen_unit.FrozenUnit.{FrozenUnit}
use Rattle.bf_image.specs.declared.migration.Frozen.{Frozen}
use Rattle.bf_image.specs.declared.migration.Migration.{Migration}
use Rattle.bf_image.proofs.parting.Behind.{none_behind}
use Rattle.bf_image.proofs.parting.DriverRows.{part_past, rows_of_row}
use Rattle.bf_image.proofs.parting.FoundArms.{as_many, found_at}
use Rattle.bf_image.proofs.parting.OldTables.{row_at_found, rows_missing}
use Rattle.bf_image.proofs.parting.UnitParts.{part_by_rows}
use Rattle.bf_image.proofs.parting.UnitRows.{bound_by_row, bound_here, bound_makes_any, driven_here, more_rows}
use Rattle.bf_image.proofs.planning.Driven.{part_by_numbers, rows_by_numbers}
use Rattle.bf_image.proofs.planning.Units.{planned_as}

module _ (m : Migration) (number : ℕ) (arms : List FrozenArm) where
  -- a unit that goes by the rows of a table does so by the one of its name, or has nothing where there is none
  pub driven_by : IsLawfulMigration m → (unit : Planned) → slice_get m.plan.units number ≡ Some unit → unit.kind ≡ Rows → AreFound m unit.arms arms
      → (looked : Option Frozen) → looked ≡ source_of m unit.driver → IsDriven m number looked arms
  driven_by lawful unit there is found (Some driver) looked = record { planned = unit; there = there; by_rows = is; driven = sym looked; found = found }
  driven_by lawful unit there is found None looked = λ at.
      let past : slice_get (table_rows (old_of m) unit.driver) at ≡ None =
      ap (λ rows. slice_get rows at) (rows_missing m unit.driver (sym looked)) ∙ slice_get_past {X = List Value} [] at (omega arith) in
      part_by_rows m lawful number at unit there is ∙ part_past (old_of m) m.plan.migrate unit.driver at lawful.lawful past

  module _ (driver : Frozen) (goes : GoesByRows m number driver arms) where
    -- its arms are those that its driver drives
    pub arms_planned : IsLawfulMigration m → goes.planned.arms ≡ (rows_unit_of (old_of m) m.plan.migrate goes.planned.driver).arms
    arms_planned lawful = ap (λ (u : Planned). u.arms) (planned_as m lawful number goes.planned goes.there Rows goes.by_rows)

    -- a row of its table is one of its driver's
    pub row_there : (at : ℕ) (o : Option (List Value)) → option_map (λ (e : Entry). e.1) (slice_get driver.rows at) ≡ o
        → slice_get (table_rows (old_of m) goes.planned.driver) at ≡ o
    row_there at o is = row_at_found m goes.planned.driver driver goes.driven at (slice_get driver.rows at) refl ∙ is

    module _ (lawful : IsLawfulMigration m) (i : ℕ) (arm : FrozenArm) (within : i < length arms) (is : arm ≡ get_or arms i arm) where
      -- there is a pair of numbers for each arm
      in_pairs : i < length goes.planned.arms
      in_pairs = omega (arith, within, as_many m goes.planned.arms arms goes.found)

      -- those of this one, and the arm that they name
      abbrev numbers : ℕ × ℕ
      numbers = get_or goes.planned.arms i (0, 0)

      abbrev named : Arm
      named = arm_named m.plan.migrate numbers

      -- it is found at them
      found : IsFound m numbers.0 (arm_at m numbers.0 numbers.1) (Some arm)
      found = subst (λ a. IsFound m numbers.0 (arm_at m numbers.0 numbers.1) (Some a)) (sym is) (found_at m goes.planned.arms arms i arm goes.found within)

      -- each of its arms goes by rows, and nothing stands in the way of its rows
      pub arm_by_row : IsTrue (is_by_row arm.placed.now.kind)
      arm_by_row = bound_by_row m goes.planned.driver goes.planned.arms (arms_planned lawful) i in_pairs lawful arm found

      pub arm_makes_any : (from join : List (List Value)) → CanMake arm.placed.now from join
      arm_makes_any = bound_makes_any m goes.planned.driver goes.planned.arms (arms_planned lawful) i in_pairs lawful arm found

      -- it is the arm of its numbers, bound
      pub arm_bound : IsFrozenArm m numbers.0 named arm
      arm_bound = bound_here m goes.planned.driver goes.planned.arms (arms_planned lawful) i in_pairs arm found

      module _ (at : ℕ) (row : List Value) (there : slice_get (table_rows (old_of m) goes.planned.driver) at ≡ Some row) where
        -- what the arm of a pair makes of the row
        abbrev by_arm : ℕ × ℕ → List (Target × List Value)
        by_arm = rows_by_numbers (old_of m) m.plan.migrate goes.planned.driver at

        -- what it makes of a row stands behind what the arms before it make
        pub more_of_arm : (made : List (List Value))
            → (arm_kind (old_of m) named ≡ ByFrom → made ≡ arm_rows (old_of m) named (row ∷ []) (join_rows_met (old_of m) named row))
            → (arm_kind (old_of m) named ≡ ByJoin → made ≡ arm_rows (old_of m) named (from_rows_met (old_of m) named row) (row ∷ []))
            → (first before all : List (ℕ × List Value)) → all ≡ before ++ map (λ r. (arm.target, r)) made
            → AreBehind m (flat_map by_arm (take i goes.planned.arms)) first before → AreBehind m (flat_map by_arm (take (i + 1) goes.planned.arms)) first all
        more_of_arm made from join first before all joined =
            more_rows m goes.planned.driver goes.planned.arms (arms_planned lawful) i in_pairs at first before all made
            (joined ∙ ap (λ t. before ++ map (λ r. (t, r)) made) arm_bound.of_target)
            (rows_of_row (old_of m) m.plan.migrate lawful.lawful goes.planned.driver numbers
            (driven_here m goes.planned.driver goes.planned.arms (arms_planned lawful) i in_pairs)
            at row there made from join)

    -- what all of its arms make of a row is the part of its granule
    pub part_of_arms : (lawful : IsLawfulMigration m) (at i : ℕ) → length arms ≤ i → (first all : List (ℕ × List Value))
        → AreBehind m (flat_map (rows_by_numbers (old_of m) m.plan.migrate goes.planned.driver at) (take i goes.planned.arms)) first all
        → IsPartBehind m (granule number (Row at)) first all
    part_of_arms lawful at i past first all =
        let whole : take i goes.planned.arms ≡ goes.planned.arms = take_all i goes.planned.arms (omega (arith, past, as_many m goes.planned.arms arms goes.found)) in
        subst (λ (added : List (Target × List Value)). AreBehind m added first all)
        (ap (flat_map (rows_by_numbers (old_of m) m.plan.migrate goes.planned.driver at)) (whole ∙ arms_planned lawful)
        ∙ sym (part_by_rows m lawful number at goes.planned goes.there goes.by_rows ∙ part_by_numbers (old_of m) m.plan.migrate goes.planned.driver at))

    -- past its table it has nothing
    pub part_of_none : (lawful : IsLawfulMigration m) (at : ℕ) → slice_get driver.rows at ≡ None
        → (rows : List (ℕ × List Value)) → IsPartBehind m (granule number (Row at)) rows rows
    part_of_none lawful at none rows =
        none_behind m rows
        (part_by_rows m lawful number at goes.planned goes.there goes.by_rows
        ∙ part_past (old_of m) m.plan.migrate goes.planned.driver at lawful.lawful (row_there at None (ap (option_map (λ (e : Entry). e.1)) none)))

-- BY ROWS: a unit has a table, and goes by its rows
pub record HasDriver (unit : FrozenUnit) : Type 0 where
  pub driver : Bor Frozen
  pub held : unit.driver ≡ Some driver
  pub goes : GoesByRows unit.migration.now unit.number driver.now unit.arms.items

module _ (unit : FrozenUnit) where
  -- by cases of whether there is a table
  driver_by : (o : Option (Bor Frozen)) → unit.driver ≡ o → IsSome o → IsDriven unit.migration.now unit.number (option_map (λ d. d.now) o) unit.arms.items → HasDriver unit
  driver_by None held some driven = absurd cc
  driver_by (Some driver) held some driven = record { driver = driver; held = held; goes = driven }

  -- a unit that has a table goes by its rows
  pub has_driver : IsFrozenUnit unit → IsSome unit.driver → HasDriver unit
  has_driver is some = driver_by unit.driver refl some is.driven

  -- the row at a position is the driver's
  pub row_of_unit : (has : HasDriver unit) (at : ℕ) (row : List Value) → IsRowAt unit at row
      → slice_get (table_rows (old_of unit.migration.now) has.goes.planned.driver) at ≡ Some row
  row_of_unit has at row here =
      row_there unit.migration.now unit.number unit.arms.items has.driver.now has.goes at (Some row)
      (sym (ap (option_and_then (λ (d : Bor Frozen). option_map (λ (e : Entry). e.1) (slice_get d.now.rows at))) has.held) ∙ here)
