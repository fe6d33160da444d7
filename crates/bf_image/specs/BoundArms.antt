-- The arms of a migration, each bound, with its old tables.
use Rattle.std.specs.Prelude.{◌≡◌, IsTrue, Bool, true, ℕ, ◌-◌, ◌≤◌, nat_le, nat_lt, List, [], ◌∷◌, ◌++◌, map, flat_map, filter, length, Option, Some, None, option_map, slice_get}
use Rattle.std.specs.Option.{option_and_then}
use Rattle.bf_base.specs.Limits.{most_rows}
use Rattle.bf_base.specs.declared.value.Value.{Value}
use Rattle.bf_heap.specs.Heaps.{Entry}
use Rattle.bf_tree.specs.Limits.{is_narrow}
use Rattle.bf_tree.specs.declared.migration.Arm.{Arm}
use Rattle.bf_tree.specs.declared.migration.Join.{Join}
use Rattle.bf_sql.specs.migrations.Granules.{UnitForm, rows_unit, values_unit}
use Rattle.bf_sql.specs.migrations.Placed.{placed_arm}
use Rattle.bf_index.specs.ByValues.{are_within, by_value, values_at}
use Rattle.bf_image.specs.Migrations.{old_of, source_of, target_at}
use Rattle.bf_image.specs.declared.arms.FrozenArm.{FrozenArm}
use Rattle.bf_image.specs.declared.migration.Frozen.{Frozen}
use Rattle.bf_image.specs.declared.migration.Migration.{Migration}
use Rattle.bf_image.specs.declared.value_indexes.UnitIndex.{UnitIndex}

-- how many columns FROM has
abbrev pub width_of : FrozenArm → ℕ
width_of bound = length bound.from.now.table.columns

-- the places of ON in a row of FROM with a row of JOIN behind it, in the order of ON
abbrev pub places_of_on : Option (List (ℕ × ℕ)) → List ℕ
places_of_on None = []
places_of_on (Some on) = flat_map (λ pair. pair.0 ∷ pair.1 ∷ []) on

-- the places by whose values an arm goes: in a row of FROM, and in one of JOIN
abbrev pub places_in_from : FrozenArm → List ℕ
places_in_from bound = bound.placed.now.group ++ filter (λ p. nat_lt p (width_of bound)) (places_of_on bound.placed.now.on)

abbrev pub places_in_join : FrozenArm → List ℕ
places_in_join bound = map (λ p. p - width_of bound) (filter (λ p. nat_le (width_of bound) p) (places_of_on bound.placed.now.on))

-- an arm by the number of its target and its own
abbrev pub arm_at : Migration → ℕ → ℕ → Option Arm
arm_at m target number = option_and_then (λ t. slice_get t.arms number) (slice_get m.plan.migrate.targets target)

abbrev pub IsJoined : Migration → Option Join → Option Frozen → Type 0
IsJoined m None None = Unit
IsJoined m (Some join) (Some frozen) = source_of m join.table ≡ Some frozen
IsJoined m join frozen = ⊥

-- BOUND: an arm of a target, with places for names, and its old tables
pub record IsFrozenArm (m : Migration) (target : ℕ) (arm : Arm) (bound : FrozenArm) : Type 0 where
  pub of_target : bound.target ≡ target
  pub placed : bound.placed.now ≡ placed_arm (old_of m) arm
  pub from : source_of m arm.from ≡ Some bound.from.now
  pub join : IsJoined m arm.join (option_map (λ join. join.now) bound.join)

-- an arm that is there is found
abbrev pub IsFound : Migration → ℕ → Option Arm → Option FrozenArm → Type 0
IsFound m target None None = Unit
IsFound m target (Some arm) (Some bound) = IsFrozenArm m target arm bound
IsFound m target arm bound = ⊥

-- the arm of a unit that goes by values is found, and none of a unit that goes by rows
abbrev pub IsOfUnit : Migration → Option UnitForm → Option FrozenArm → Type 0
IsOfUnit m None None = Unit
IsOfUnit m (Some (rows_unit driver)) None = Unit
IsOfUnit m (Some (values_unit target arm)) (Some bound) = IsFrozenArm m bound.target arm bound × (target_at m bound.target ≡ target)
IsOfUnit m unit bound = ⊥

-- the rows of a bound arm's tables by the values by which the arm goes
abbrev pub arm_index : FrozenArm → UnitIndex
arm_index bound = record {
  from = by_value (values_at (places_in_from bound) bound.from.now.rows);
  join = option_map (λ join. by_value (values_at (places_in_join bound) join.now.rows)) bound.join;
}

-- each row of those tables has a value at each of the arm's places
abbrev pub are_joined_within : List ℕ → Option Frozen → Bool
are_joined_within places None = true
are_joined_within places (Some frozen) = are_within places frozen.rows

pub record HasValues (bound : FrozenArm) : Type 0 where
  pub narrow : IsTrue (is_narrow bound.from.now.table)
  pub from : IsTrue (are_within (places_in_from bound) bound.from.now.rows)
  pub join : IsTrue (are_joined_within (places_in_join bound) (option_map (λ join. join.now) bound.join))

-- the rows of an old table that may be there
abbrev pub entries_of : Option Frozen → List Entry
entries_of None = []
entries_of (Some frozen) = frozen.rows

-- the values by which an arm goes, of the rows of FROM and then of those of JOIN
abbrev pub arm_values : FrozenArm → List (List Value)
arm_values bound =
    values_at (places_in_from bound) bound.from.now.rows ++ values_at (places_in_join bound) (entries_of (option_map (λ join. join.now) bound.join))

-- so few rows that they can be counted
pub record HasFewRows (bound : FrozenArm) : Type 0 where
  pub from : length bound.from.now.rows ≤ most_rows
  pub join : length (entries_of (option_map (λ join. join.now) bound.join)) ≤ most_rows
