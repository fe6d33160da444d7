-- UNITS with their old tables, looked up once.
use Rattle.std.specs.Prelude.{◌≡◌, ℕ, List, [], ◌∷◌, Option, Some, None, option_map, slice_get}
use Rattle.std.specs.Option.{option_and_then}
use Rattle.bf_base.specs.declared.granule.Place.TheVariants.{Row}
use Rattle.bf_base.specs.declared.value.Value.{Value}
use Rattle.bf_sql.specs.migrations.Granules.{granule, part_of}
use Rattle.bf_tree.specs.declared.plan.Unit.{Unit as Planned}
use Rattle.bf_tree.specs.declared.plan.UnitKind.TheVariants.{Rows}
use Rattle.bf_image.specs.BoundArms.{IsFound, IsOfUnit, arm_at}
use Rattle.bf_image.specs.Migrations.{IsLawfulMigration, old_of, source_of, unit_at, value_indexes}
use Rattle.bf_image.specs.declared.arms.FrozenArm.{FrozenArm}
use Rattle.bf_image.specs.declared.frozen_unit.FrozenUnit.{FrozenUnit}
use Rattle.bf_image.specs.declared.migration.Frozen.{Frozen}
use Rattle.bf_image.specs.declared.migration.Migration.{Migration}

-- arms are found at pairs of numbers, one for each
abbrev pub AreFound : Migration → List (ℕ × ℕ) → List FrozenArm → Type 0
AreFound m [] [] = Unit
AreFound m (pair ∷ pairs) (bound ∷ others) = IsFound m pair.0 (arm_at m pair.0 pair.1) (Some bound) × AreFound m pairs others
AreFound m pairs others = ⊥

-- a planned unit goes by the rows of an old table, and has these arms
pub record GoesByRows (m : Migration) (number : ℕ) (driver : Frozen) (arms : List FrozenArm) : Type 0 where
  pub planned : Planned
  pub there : slice_get m.plan.units number ≡ Some planned
  pub by_rows : planned.kind ≡ Rows
  pub driven : source_of m planned.driver ≡ Some driver
  pub found : AreFound m planned.arms arms

-- the unit of a number does so; or it has nothing at any position
abbrev pub IsDriven : Migration → ℕ → Option Frozen → List FrozenArm → Type 0
IsDriven m number (Some driver) arms = GoesByRows m number driver arms
IsDriven m number None arms = (at : ℕ) → part_of (old_of m) m.plan.migrate (granule number (Row at)) ≡ []

-- THE UNIT of its number, in a lawful migration: by the rows of a table, by values with their index, or without either, where no position has rows
pub record IsFrozenUnit (unit : FrozenUnit) : Type 0 where
  pub lawful : IsLawfulMigration unit.migration.now
  pub driven : IsDriven unit.migration.now unit.number (option_map (λ driver. driver.now) unit.driver) unit.arms.items
  pub valued : IsOfUnit unit.migration.now (unit_at unit.migration.now unit.number) unit.valued
  pub indexed : option_map (λ index. index.now) unit.index ≡ option_and_then (λ index. index) (slice_get (value_indexes unit.migration.now) unit.number)

-- a row stands at a position of the table whose rows a unit goes by
abbrev pub IsRowAt : FrozenUnit → ℕ → List Value → Type 0
IsRowAt unit at row = option_and_then (λ driver. option_map (λ entry. entry.1) (slice_get driver.now.rows at)) unit.driver ≡ Some row

-- such a unit, of this migration
pub record IsUnitIn (m : Migration) (found : FrozenUnit) : Type 0 where
  pub of : found.migration.now ≡ m
  pub whole : IsFrozenUnit found
