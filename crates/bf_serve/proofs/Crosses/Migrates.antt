-- A MIGRATE may cross threads. One search through the whole type runs out of steps, so each part has its own.
use denote.Param.Send.{IsSend, IsSync, sendable}
use Rattle.std.proofs.Crossing as std
use Rattle.bf_tree.proofs.raw.RawCond.TheLaws.TheKnot as raw_cond
use Rattle.bf_tree.proofs.raw.RawExpr.TheLaws.TheKnot as raw_expr
use Rattle.bf_tree.specs.contracts.migration.Arm as Arm
use Rattle.bf_tree.specs.contracts.migration.Item as Item
use Rattle.bf_tree.specs.contracts.migration.Migrate as Migrate
use Rattle.bf_tree.specs.contracts.migration.Target as Target

-- what a type crosses by whose expressions and conditions have the names that were written
pub ruleset as_written = (sendable, std.crosses, raw_expr.crosses, raw_cond.crosses)

Item-send : IsSend Item.the_field.row
Item-send = search as_written depth 60 fits 30000

Item-sync : IsSync Item.the_field.row
Item-sync = search as_written depth 60 fits 30000

Arm-send : IsSend Arm.the_field.row
Arm-send = search (as_written, Item-send) depth 60 fits 30000

Arm-sync : IsSync Arm.the_field.row
Arm-sync = search (as_written, Item-sync) depth 60 fits 30000

Target-send : IsSend Target.the_field.row
Target-send = search (as_written, Arm-send) depth 60 fits 30000

Target-sync : IsSync Target.the_field.row
Target-sync = search (as_written, Arm-sync) depth 60 fits 30000

pub Migrate-send : IsSend Migrate.the_field.row
Migrate-send = search (as_written, Target-send) depth 60 fits 30000

pub Migrate-sync : IsSync Migrate.the_field.row
Migrate-sync = search (as_written, Target-sync) depth 60 fits 30000
