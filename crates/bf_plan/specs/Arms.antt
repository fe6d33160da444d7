-- Arms as they are bound in a catalog, and their parts.
use Rattle.std.specs.Prelude.{ℕ, Bool, not, ◌&&◌, ◌||◌, List, ◌++◌, map, flat_map, Option, Some, option_map, unwrap_or, nat_eq, position, is_some}
use Rattle.std.specs.List.{list_any, list_all}
use Rattle.std.specs.Option.{option_eq}
use Rattle.bf_tree.specs.Trees.{cond_over}
use Rattle.bf_tree.specs.declared.migration.Arm.{Arm}
use Rattle.bf_tree.specs.declared.reply.Refusal.{Refusal}
use Rattle.bf_tree.specs.declared.plan.ArmKind.{ArmKind}
use Rattle.bf_tree.specs.declared.plan.ArmKind.TheVariants.{ByFrom, ByJoin, ByPair, ByGroup}
use Rattle.bf_tree.specs.declared.plan.UnitKind.{UnitKind}
use Rattle.bf_tree.specs.declared.plan.UnitKind.TheVariants as unit_kind
use Rattle.bf_sql.specs.Conditions.{condition_of}
use Rattle.bf_sql.specs.Database.{Database}
use Rattle.bf_sql.specs.Scopes.{Scope, place_of, cond_objections}
use Rattle.bf_sql.specs.migrations.MigrationObjections.{item_objections, group_objections, inherits_key, tag_of}
use Rattle.bf_sql.specs.migrations.Placed.{placed_arm}
use Rattle.bf_sql.specs.migrations.Targets.{equalities, arm_scope, arm_kind, key_items}
use Rattle.bf_bind.specs.ArmTables.{equality_objections, key_places, kind_by_places, placed_on}
use Rattle.bf_bind.specs.declared.source.ArmTables.{ArmTables}
use Rattle.bf_plan.specs.Items.{bound_item, bound_items}
use Rattle.bf_plan.specs.declared.arm.ArmParts.{ArmParts}
use Rattle.bf_plan.specs.declared.arm.BoundArm.{BoundArm}
use Rattle.bf_plan.specs.declared.item.BoundItem.{BoundItem}

module _ (scope : Scope) where
  module _ (width : ℕ) (name : List ℕ) where
    -- an arm whose tables are there
    abbrev pub parts_objections : Arm → List Refusal
    parts_objections arm =
        flat_map (item_objections scope) arm.items
        ++ flat_map (equality_objections scope width name) (equalities arm)
        ++ cond_objections scope (condition_of arm.cond)
        ++ group_objections scope arm.group

  abbrev pub bound_parts : Arm → ArmParts
  bound_parts arm = record {
    items = bound_items scope arm.items;
    on = placed_on scope arm;
    cond = cond_over (place_of scope) (condition_of arm.cond);
    group = map (place_of scope) arm.group;
  }

abbrev pub unit_kind_of : ArmKind → UnitKind
unit_kind_of ByFrom = unit_kind.Rows
unit_kind_of ByJoin = unit_kind.Rows
unit_kind_of ByPair = unit_kind.Joins
unit_kind_of ByGroup = unit_kind.Groups

-- the table by whose rows the unit of an arm goes
abbrev pub driver_of : ArmKind → Arm → List ℕ
driver_of ByFrom arm = arm.from
driver_of ByJoin arm = unwrap_or (option_map (λ j. j.table) arm.join) arm.from
driver_of ByPair arm = arm.from
driver_of ByGroup arm = arm.from

-- the first item that is the column at a place
abbrev pub key_item : List BoundItem → ℕ → Option ℕ
key_item items place = position (option_eq nat_eq (Some place)) (map (λ i. i.place) items)

abbrev pub is_grouped : List ℕ → BoundItem → Bool
is_grouped group item = item.is_total || list_any (λ place. option_eq nat_eq (Some place) item.place) group

-- whether totals stand in groups alone, and in a group nothing else but its columns
abbrev pub inherits_by : ArmKind → Arm → ArmParts → Bool
inherits_by ByGroup arm parts = not (is_some arm.join) && list_all (is_grouped parts.group) parts.items.bound
inherits_by other arm parts = list_all (λ i. not i.is_total) parts.items.bound

-- an arm by its parts
abbrev pub arm_of_kind : ArmKind → ArmTables → Arm → ArmParts → BoundArm
arm_of_kind kind tables arm parts =
    let found = map (key_item parts.items.bound) (key_places tables parts.group kind) in
    record {
      items = parts.items.bound;
      key_items = found;
      inherits_key = list_all is_some found && inherits_by kind arm parts;
      tag = tag_of arm.items;
      unit_kind = unit_kind_of kind;
      driver = driver_of kind arm;
      placed = record { kind = kind; items = parts.items.placed; on = parts.on; cond = parts.cond; group = parts.group };
    }

abbrev pub arm_of_parts : ArmTables → Arm → ArmParts → BoundArm
arm_of_parts tables arm parts = arm_of_kind (kind_by_places tables parts.on parts.group) tables arm parts

-- an arm in a database
abbrev pub bound_arm : Database → Arm → BoundArm
bound_arm db arm = record {
  items = map (bound_item (arm_scope db arm)) arm.items;
  key_items = key_items db arm;
  inherits_key = inherits_key db arm;
  tag = tag_of arm.items;
  unit_kind = unit_kind_of (arm_kind db arm);
  driver = driver_of (arm_kind db arm) arm;
  placed = placed_arm db arm;
}
