-- JOINED: the columns of a new table that copy the values by which a unit of joins goes.
use Rattle.std.specs.Prelude.{◌≡◌, ℕ, Bool, false, ◌||◌, ◌==◌, List, [], ◌∷◌, length, take, position, Option, Some, option_map, unwrap_or}
use Rattle.std.specs.List.{AllByRecursion}
use Rattle.bf_base.specs.declared.granule.Place.TheVariants.{Group}
use Rattle.bf_base.specs.declared.value.Value.{Value}
use Rattle.bf_base.specs.Tables.{cells}
use Rattle.bf_tree.specs.declared.migration.Arm.{Arm}
use Rattle.bf_tree.specs.declared.migration.Target.{Target}
use Rattle.bf_tree.specs.declared.plan.PlacedArm.{PlacedArm}
use Rattle.bf_tree.specs.declared.plan.PlacedItem.{PlacedItem}
use Rattle.bf_sql.specs.migrations.Granules.{granule, part_of, values_unit}
use Rattle.bf_sql.specs.migrations.Placed.{placed_arm}
use Rattle.bf_image.specs.Migrations.{old_of, unit_at}
use Rattle.bf_image.specs.declared.migration.Migration.{Migration}
use Rattle.bf_transpose.specs.Transposed.{place_copied}

-- whether an item copies one of two places
abbrev pub copies_either : ℕ × ℕ → PlacedItem → Bool
copies_either pair item = unwrap_or (option_map (λ place. place == pair.0 || place == pair.1) (place_copied item)) false

-- for each equality of ON in order the first column that copies one of its sides, up to the first equality that no column copies
abbrev pub columns_of_on : List PlacedItem → List (ℕ × ℕ) → List ℕ
columns_of_on items [] = []
columns_of_on items (pair ∷ on) = unwrap_or (option_map (λ at. at ∷ columns_of_on items on) (position (copies_either pair) items)) []

-- the arm of a unit that goes by values, with places for names
pub record IsArmByValues (m : Migration) (unit : ℕ) (placed : PlacedArm) : Type 0 where
  pub target : Target
  pub arm : Arm
  pub of_unit : unit_at m unit ≡ Some (values_unit target arm)
  pub is_placed : placed ≡ placed_arm (old_of m) arm

-- CARRIED: each row that a value of a unit gives has at some columns the front of the value
abbrev pub AreCarried : Migration → ℕ → List ℕ → Type 0
AreCarried m unit columns =
    (value : List Value) → AllByRecursion (λ row. cells columns row.1 ≡ take (length columns) value) (part_of (old_of m) m.plan.migrate (granule unit (Group value)))
