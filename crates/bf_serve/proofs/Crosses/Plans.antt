-- A plan may go to another thread. It is too large for one search.
use denote.Param.Send.{IsSend, sendable}
use Rattle.std.proofs.Crossing as std
use Rattle.bf_base.proofs.name.Name.TheSendSync as name
use Rattle.bf_base.proofs.sequence.Sequence.TheSendSync as sequence
use Rattle.bf_base.proofs.table.Table.TheSendSync as table
use Rattle.bf_tree.proofs.plan.Unit.TheSendSync as unit
use Rattle.bf_tree.proofs.tree.Cond.TheLaws.TheKnot as cond
use Rattle.bf_tree.proofs.tree.Expr.TheLaws.TheKnot as expr
use Rattle.bf_tree.specs.contracts.plan.PlacedArm as PlacedArm
use Rattle.bf_tree.specs.contracts.plan.PlacedItem as PlacedItem
use Rattle.bf_tree.specs.contracts.plan.Plan as Plan
use Rattle.bf_serve.proofs.Crosses.Migrates.{Migrate-send}

-- what a type crosses by whose expressions and conditions have places for names
ruleset placed = (sendable, std.crosses, expr.crosses, cond.crosses)

PlacedItem-send : IsSend PlacedItem.the_field.row
PlacedItem-send = search placed depth 60 fits 30000

PlacedArm-send : IsSend PlacedArm.the_field.row
PlacedArm-send = search (placed, PlacedItem-send) depth 60 fits 30000

pub Plan-send : IsSend Plan.the_field.row
Plan-send = search (sendable, sequence.the_send, table.the_field_send, name.the_send, unit.the_field_send, Migrate-send, PlacedArm-send) depth 60 fits 30000
