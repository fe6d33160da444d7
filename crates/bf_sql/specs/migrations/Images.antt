-- The rows of a new table as queries over the whole old tables, and the flip.
use Rattle.std.specs.Prelude.{◌+◌, pos, Bool, List, [], ◌∷◌, ◌++◌, map, flat_map, filter, Option, Some, None}
use Rattle.std.specs.List.{list_all}
use Rattle.std.specs.Ordering.{is_eq}
use Rattle.bf_base.specs.declared.value.Value.{Value}
use Rattle.bf_base.specs.declared.value.Value.TheVariants.{Int}
use Rattle.bf_base.specs.Values.{value_cmp}
use Rattle.bf_base.specs.Lists.{same_name, same_key, has}
use Rattle.bf_tree.specs.declared.raw.Ref.{Ref}
use Rattle.bf_tree.specs.Evaluation.{sure_value, holds_on}
use Rattle.bf_tree.specs.declared.reply.Cell.{Cell}
use Rattle.bf_tree.specs.declared.reply.Cell.TheVariants as cells
use Rattle.bf_tree.specs.declared.migration.Item.{Item}
use Rattle.bf_tree.specs.declared.migration.Item.TheVariants as item
use Rattle.bf_tree.specs.declared.migration.Join.{Join}
use Rattle.bf_tree.specs.declared.migration.Arm.{Arm}
use Rattle.bf_tree.specs.declared.migration.Target.{Target}
use Rattle.bf_tree.specs.declared.migration.Migrate.{Migrate}
use Rattle.bf_base.specs.Distinct.{distinct}
use Rattle.bf_tree.specs.declared.plan.ArmKind.{ArmKind}
use Rattle.bf_tree.specs.declared.plan.ArmKind.TheVariants.{ByFrom, ByJoin, ByPair, ByGroup}
use Rattle.bf_sql.specs.Database.{Database, Stored, table_rows, stored_in_order, without, with_tables}
use Rattle.bf_sql.specs.Conditions.{condition_of}
use Rattle.bf_sql.specs.Scopes.{Scope, read_in}
use Rattle.bf_tree.specs.Totals.{total_of}
use Rattle.bf_sql.specs.migrations.Targets.{arm_scope, arm_kind, target_table}
use Rattle.bf_sql.specs.migrations.MigrationObjections.{sources_of}

-- a total in a group is never NULL, since no group is empty
abbrev pub value_or_nought : Cell → Value
value_or_nought (cells.Value v) = v
value_or_nought cells.Null = Int (pos 0)

abbrev pub is_equal_on : Scope → List Value → Ref × Ref → Bool
is_equal_on scope row pair = is_eq (value_cmp (read_in scope row pair.0) (read_in scope row pair.1))

abbrev pub first_row : List (List Value) → List Value
first_row [] = []
first_row (row ∷ rows) = row

module _ (old : Database) (arm : Arm) where
  -- the values of a row's group columns
  abbrev pub group_value : List Value → List Value
  group_value row = map (read_in (arm_scope old arm) row) arm.group

  -- an item over the rows of a group
  abbrev pub item_over : List (List Value) → Item → Value
  item_over rows (item.Column ref) = read_in (arm_scope old arm) (first_row rows) ref
  item_over rows (item.Named e name) = sure_value (read_in (arm_scope old arm) (first_row rows)) e
  item_over rows (item.Total total name) = value_or_nought (total_of (read_in (arm_scope old arm)) rows total)

  -- rows, each by itself, or those of each value of the group columns
  abbrev pub groups_by : ArmKind → List (List Value) → List (List (List Value))
  groups_by ByFrom rows = map (λ row. row ∷ []) rows
  groups_by ByJoin rows = map (λ row. row ∷ []) rows
  groups_by ByPair rows = map (λ row. row ∷ []) rows
  groups_by ByGroup rows = map (λ g. filter (λ row. same_key g (group_value row)) rows) (distinct same_key (map group_value rows))

  -- over given rows of the FROM and of the JOIN table
  module _ (from join : List (List Value)) where
    -- FROM alone, or the pairs that satisfy ON, side by side
    abbrev pub matches_of_join : Option Join → List (List Value)
    matches_of_join None = from
    matches_of_join (Some j) = filter (λ row. list_all (is_equal_on (arm_scope old arm) row) j.on) (flat_map (λ r. map (λ s. r ++ s) join) from)

    -- the rows that satisfy the join and the filter
    abbrev pub satisfying : List (List Value)
    satisfying = filter (λ row. holds_on (read_in (arm_scope old arm) row) (condition_of arm.cond)) (matches_of_join arm.join)

    abbrev pub arm_rows : List (List Value)
    arm_rows = map (λ rows. map (item_over rows) arm.items) (groups_by (arm_kind old arm) satisfying)

-- the rows of the JOIN table
abbrev pub rows_of_join : Database → Option Join → List (List Value)
rows_of_join old None = []
rows_of_join old (Some j) = table_rows old j.table

-- IMAGE: what the arms of a target give over the whole old tables
abbrev pub image_of : Database → Target → List (List Value)
image_of old target = flat_map (λ arm. arm_rows old arm (table_rows old arm.from) (rows_of_join old arm.join)) target.arms

-- the database without the sources and their indexes, with new tables, and with its next number
abbrev pub replaced : Database → Migrate → List Stored → Database
replaced db m new =
    let rest = without (has same_name (sources_of m)) db in
    with_tables new (record rest { number = db.number + 1 })

-- FLIP: the sources leave, and each target holds its image of the whole old tables
abbrev pub flipped : Database → Migrate → Database
flipped db m = replaced db m (map (λ t. stored_in_order (target_table db t) (image_of db t)) m.targets)
