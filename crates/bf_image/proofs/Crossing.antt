-- Threads may share a registry. The search for this is cut into steps, since a plan is too large for one.
use denote.Param.Send.{IsSend, IsSync, sendable}
use Rattle.std.proofs.Crossing as std
use Rattle.boxcar.proofs.vec.Vec.TheSendSync as shelf
use Rattle.bf_base.proofs.name.Name.TheSendSync as name
use Rattle.bf_base.proofs.sequence.Sequence.TheSendSync as sequence
use Rattle.bf_base.proofs.table.Table.TheSendSync as table
use Rattle.bf_tree.proofs.catalog.Catalog.TheSendSync as catalog
use Rattle.bf_tree.proofs.plan.Unit.TheSendSync as unit
use Rattle.bf_tree.proofs.raw.RawCond.TheLaws.TheKnot as raw_cond
use Rattle.bf_tree.proofs.raw.RawExpr.TheLaws.TheKnot as raw_expr
use Rattle.bf_tree.proofs.tree.Cond.TheLaws.TheKnot as cond
use Rattle.bf_tree.proofs.tree.Expr.TheLaws.TheKnot as expr
use Rattle.bf_tree.specs.contracts.migration.Arm as Arm
use Rattle.bf_tree.specs.contracts.migration.Item as Item
use Rattle.bf_tree.specs.contracts.migration.Migrate as Migrate
use Rattle.bf_tree.specs.contracts.migration.Target as Target
use Rattle.bf_tree.specs.contracts.plan.PlacedArm as PlacedArm
use Rattle.bf_tree.specs.contracts.plan.PlacedItem as PlacedItem
use Rattle.bf_tree.specs.contracts.plan.Plan as Plan
use Rattle.bf_image.specs.contracts.migration.Migration as Migration
use Rattle.bf_image.specs.contracts.registry.Registry as Registry
use Rattle.bf_image.proofs.migration.Frozen.TheSendSync as frozen

ruleset trees = (sendable, std.crosses, expr.crosses, cond.crosses, raw_expr.crosses, raw_cond.crosses)

PlacedItem-send : IsSend PlacedItem.the_field.row
PlacedItem-send = search trees depth 60 fits 30000

PlacedItem-sync : IsSync PlacedItem.the_field.row
PlacedItem-sync = search trees depth 60 fits 30000

PlacedArm-send : IsSend PlacedArm.the_field.row
PlacedArm-send = search (trees, PlacedItem-send) depth 60 fits 30000

PlacedArm-sync : IsSync PlacedArm.the_field.row
PlacedArm-sync = search (trees, PlacedItem-sync) depth 60 fits 30000

Item-send : IsSend Item.the_field.row
Item-send = search trees depth 60 fits 30000

Item-sync : IsSync Item.the_field.row
Item-sync = search trees depth 60 fits 30000

Arm-send : IsSend Arm.the_field.row
Arm-send = search (trees, Item-send) depth 60 fits 30000

Arm-sync : IsSync Arm.the_field.row
Arm-sync = search (trees, Item-sync) depth 60 fits 30000

Target-send : IsSend Target.the_field.row
Target-send = search (trees, Arm-send) depth 60 fits 30000

Target-sync : IsSync Target.the_field.row
Target-sync = search (trees, Arm-sync) depth 60 fits 30000

Migrate-send : IsSend Migrate.the_field.row
Migrate-send = search (trees, Target-send) depth 60 fits 30000

Migrate-sync : IsSync Migrate.the_field.row
Migrate-sync = search (trees, Target-sync) depth 60 fits 30000

Plan-send : IsSend Plan.the_field.row
Plan-send = search (sendable, std.crosses, sequence.the_send, table.the_field_send, name.the_send, unit.the_field_send, Migrate-send, PlacedArm-send) depth 60 fits 30000

Plan-sync : IsSync Plan.the_field.row
Plan-sync = search (sendable, std.crosses, sequence.the_sync, table.the_field_sync, name.the_sync, unit.the_field_sync, Migrate-sync, PlacedArm-sync) depth 60 fits 30000

pub Migration-send : IsSend Migration.the_row
Migration-send = search (sendable, std.crosses, sequence.the_send, frozen.the_field_send, Plan-send) depth 60 fits 30000

pub Migration-sync : IsSync Migration.the_row
Migration-sync = search (sendable, std.crosses, sequence.the_sync, frozen.the_field_sync, Plan-sync) depth 60 fits 30000

pub Registry-send : IsSend Registry.the_row
Registry-send = search (sendable, std.crosses, shelf.the_send, catalog.the_send, Migration-send) depth 60 fits 30000

pub Registry-sync : IsSync Registry.the_row
Registry-sync = search (sendable, std.crosses, shelf.the_sync, catalog.the_send, catalog.the_sync, Migration-send, Migration-sync) depth 60 fits 30000

pub ruleset crosses = (Migration-send, Migration-sync, Registry-send, Registry-sync)
