use Rattle.std.proofs.Common.{Bor}
use Rattle.bf_base.specs.declared.row.Row.{Row}
use Rattle.bf_base.specs.Tables.{IsKeyWithin}
use Rattle.bf_tree.proofs.Stopping.{has_item}
use Rattle.bf_query.proofs.change.plan_delete.Goals as goal

pub key_of-requires : goal.key_of-requires
key_of-requires c = has_item (λ (row : Bor Row). row.now) c.args.rows.now c.loop-row.row-index c.row-item.result c.loop-row-test.true c.row-item.is (IsKeyWithin c.args.table.now) c.requires
