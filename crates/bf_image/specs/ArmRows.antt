-- What an arm asks of the rows that it makes rows of.
use Rattle.std.specs.Prelude.{◌≡◌, ℕ, Bool, true, false, ◌&&◌, List, [], ◌∷◌, map, filter, flat_map, None, if◌then◌else◌}
use Rattle.std.specs.List.{list_all, AllByRecursion}
use Rattle.bf_base.specs.declared.value.Value.{Value}
use Rattle.bf_base.specs.Tables.{cell, cells}
use Rattle.bf_tree.specs.Evaluation.{holds_on}
use Rattle.bf_tree.specs.declared.items.Items.TheVariants.{Aggregates}
use Rattle.bf_tree.specs.declared.plan.ArmKind.{ArmKind}
use Rattle.bf_tree.specs.declared.plan.ArmKind.TheVariants.{ByFrom, ByJoin, ByPair, ByGroup}
use Rattle.bf_tree.specs.declared.plan.PlacedArm.{PlacedArm}
use Rattle.bf_tree.specs.declared.plan.PlacedItem.{PlacedItem}
use Rattle.bf_tree.specs.declared.plan.PlacedItem.TheVariants as placed
use Rattle.bf_tree.specs.declared.reply.Refusal.{Refusal}
use Rattle.bf_tree.specs.ValueObjections.{answer_objections}
use Rattle.bf_sql.specs.migrations.Placed.{is_equal_at, placed_groups, placed_matches, placed_over}

-- what stands in the way of a total over rows; a column and an expression count as 0 where they have no value
abbrev pub item_objections : List (List Value) → PlacedItem → List Refusal
item_objections rows (placed.Column place) = []
item_objections rows (placed.Value e) = []
item_objections rows (placed.Total total) = answer_objections cell (Aggregates (total ∷ [])) rows

abbrev pub IsUnobjected : PlacedArm → List (List Value) → Type 0
IsUnobjected arm rows = flat_map (item_objections rows) arm.items ≡ []

-- where an arm has groups, it has no JOIN and the rows are of one group
abbrev pub AreOfOne : ArmKind → PlacedArm → List (List Value) → Type 0
AreOfOne ByFrom arm rows = Unit {0}
AreOfOne ByJoin arm rows = Unit {0}
AreOfOne ByPair arm rows = Unit {0}
AreOfOne ByGroup arm rows = (arm.on ≡ None) × ((value : List Value) × AllByRecursion (λ row. cells arm.group row ≡ value) rows)

-- the row that an arm makes of the rows of a group
abbrev pub made_of : PlacedArm → List (List Value) → List Value
made_of arm rows = map (placed_over rows) arm.items

-- the groups of which an arm makes a row each, among rows that match its ON
abbrev pub groups_of : PlacedArm → List (List Value) → List (List (List Value))
groups_of arm rows = placed_groups arm arm.kind (filter (λ row. holds_on (cell row) arm.cond) rows)

-- the rows that an arm makes of rows that match its ON
abbrev pub rows_made_of : PlacedArm → List (List Value) → List (List Value)
rows_made_of arm rows = map (made_of arm) (groups_of arm rows)

-- each group of which an arm makes a row has a value for each total
abbrev pub CanMakeOf : PlacedArm → List (List Value) → Type 0
CanMakeOf arm rows = AllByRecursion (IsUnobjected arm) (groups_of arm rows)

abbrev pub CanMake : PlacedArm → List (List Value) → List (List Value) → Type 0
CanMake arm from join = CanMakeOf arm (placed_matches arm arm.on from join)

-- rows of one group are that group; no rows are none
abbrev pub those_if_any : List (List Value) → List (List (List Value))
those_if_any [] = []
those_if_any (row ∷ rows) = (row ∷ rows) ∷ []

-- whether two rows side by side match ON and satisfy the condition
abbrev pub is_match : PlacedArm → List (ℕ × ℕ) → List Value → Bool
is_match arm on pair = list_all (is_equal_at pair) on && holds_on (cell pair) arm.cond

-- what an arm makes of two rows side by side
abbrev pub rows_of_match : PlacedArm → List (ℕ × ℕ) → List Value → List (List Value)
rows_of_match arm on pair = if is_match arm on pair then made_of arm (pair ∷ []) ∷ [] else []

abbrev pub CanMatch : PlacedArm → List (ℕ × ℕ) → List Value → Type 0
CanMatch arm on pair = is_match arm on pair ≡ true → IsUnobjected arm (pair ∷ [])

abbrev pub is_column : PlacedItem → Bool
is_column (placed.Column place) = true
is_column (placed.Value e) = false
is_column (placed.Total total) = false
