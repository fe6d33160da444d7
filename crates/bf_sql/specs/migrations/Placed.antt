-- Arms with places for names, as a plan keeps them, and their rows.
use Rattle.std.specs.Prelude.{ℕ, Bool, List, [], ◌∷◌, ◌++◌, map, flat_map, filter, Option, Some, None, option_map}
use Rattle.std.specs.List.{list_all}
use Rattle.std.specs.Ordering.{is_eq}
use Rattle.bf_base.specs.declared.value.Value.{Value}
use Rattle.bf_base.specs.Values.{value_cmp}
use Rattle.bf_base.specs.Lists.{same_key}
use Rattle.bf_base.specs.Tables.{cell, cells}
use Rattle.bf_base.specs.Distinct.{distinct}
use Rattle.bf_tree.specs.declared.raw.Ref.{Ref}
use Rattle.bf_tree.specs.Trees.{expr_over, cond_over}
use Rattle.bf_tree.specs.Evaluation.{sure_value, holds_on}
use Rattle.bf_tree.specs.declared.migration.Item.{Item}
use Rattle.bf_tree.specs.declared.migration.Item.TheVariants as item
use Rattle.bf_tree.specs.declared.migration.Arm.{Arm}
use Rattle.bf_tree.specs.declared.plan.PlacedArm.{PlacedArm}
use Rattle.bf_tree.specs.declared.plan.PlacedItem.{PlacedItem}
use Rattle.bf_tree.specs.declared.plan.PlacedItem.TheVariants as placed
use Rattle.bf_tree.specs.declared.plan.ArmKind.{ArmKind}
use Rattle.bf_tree.specs.declared.plan.ArmKind.TheVariants.{ByFrom, ByJoin, ByPair, ByGroup}
use Rattle.bf_sql.specs.Database.{Database}
use Rattle.bf_sql.specs.Bound.{total_over}
use Rattle.bf_sql.specs.Conditions.{condition_of}
use Rattle.bf_sql.specs.Scopes.{Scope, place_of}
use Rattle.bf_sql.specs.migrations.Targets.{arm_scope, arm_kind}
use Rattle.bf_sql.specs.migrations.Images.{first_row, value_or_nought}
use Rattle.bf_tree.specs.Totals.{total_of}

-- whether two places of a row have equal values
abbrev pub is_equal_at : List Value → ℕ × ℕ → Bool
is_equal_at row pair = is_eq (value_cmp (cell row pair.0) (cell row pair.1))

-- an equality of ON, by its places
abbrev pub placed_pair : Scope → Ref × Ref → ℕ × ℕ
placed_pair scope pair = (place_of scope pair.0, place_of scope pair.1)

abbrev pub placed_item : Scope → Item → PlacedItem
placed_item scope (item.Column ref) = placed.Column (place_of scope ref)
placed_item scope (item.Named e name) = placed.Value (expr_over (place_of scope) e)
placed_item scope (item.Total total name) = placed.Total (total_over (place_of scope) total)

-- PLACED ARM: an arm in the columns of its tables
abbrev pub placed_arm : Database → Arm → PlacedArm
placed_arm old arm = record {
  kind = arm_kind old arm;
  items = map (placed_item (arm_scope old arm)) arm.items;
  on = option_map (λ j. map (placed_pair (arm_scope old arm)) j.on) arm.join;
  cond = cond_over (place_of (arm_scope old arm)) (condition_of arm.cond);
  group = map (place_of (arm_scope old arm)) arm.group;
}

-- an item over the rows of a group
abbrev pub placed_over : List (List Value) → PlacedItem → Value
placed_over rows (placed.Column place) = cell (first_row rows) place
placed_over rows (placed.Value e) = sure_value (cell (first_row rows)) e
placed_over rows (placed.Total total) = value_or_nought (total_of cell rows total)

module _ (arm : PlacedArm) where
  -- rows, each by itself, or those of each value of the group columns
  abbrev pub placed_groups : ArmKind → List (List Value) → List (List (List Value))
  placed_groups ByFrom rows = map (λ row. row ∷ []) rows
  placed_groups ByJoin rows = map (λ row. row ∷ []) rows
  placed_groups ByPair rows = map (λ row. row ∷ []) rows
  placed_groups ByGroup rows = map (λ g. filter (λ row. same_key g (cells arm.group row)) rows) (distinct same_key (map (cells arm.group) rows))

  -- FROM alone, or the pairs with equal values at the places of ON, side by side
  abbrev pub placed_matches : Option (List (ℕ × ℕ)) → List (List Value) → List (List Value) → List (List Value)
  placed_matches None from join = from
  placed_matches (Some on) from join = filter (λ row. list_all (is_equal_at row) on) (flat_map (λ r. map (λ s. r ++ s) join) from)

  -- the rows that an arm of a plan makes of rows of its tables
  abbrev pub placed_rows : List (List Value) → List (List Value) → List (List Value)
  placed_rows from join = map (λ rows. map (placed_over rows) arm.items) (placed_groups arm.kind (filter (λ row. holds_on (cell row) arm.cond) (placed_matches arm.on from join)))
