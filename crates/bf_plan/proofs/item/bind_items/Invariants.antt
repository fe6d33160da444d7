use Rattle.std.proofs.Common.{◌≡◌, map, take}
use Rattle.std.specs.List.{flat_map}
use Rattle.bf_sql.specs.migrations.MigrationObjections.{item_objections}
use Rattle.bf_sql.specs.migrations.Placed.{placed_item}
use Rattle.bf_bind.proofs.Walks.{left_from}
use Rattle.bf_plan.specs.Items.{bound_item}
use Rattle.bf_plan.proofs.item.bind_items.Given as goal

abbrev pub invariant-loop-item : goal.invariant-loop-item
invariant-loop-item l = record {
  unobjected : flat_map (item_objections l.scope) l.items ≡ left_from (item_objections l.scope) l.items l.item-index;
  bound : l.bound.items ≡ map (bound_item l.scope) (take l.item-index l.items);
  placed : l.placed.items ≡ map (placed_item l.scope) (take l.item-index l.items);
}
