use Rattle.std.proofs.Common.{Bor, List, Some, ap₂}
use Rattle.bf_base.specs.declared.row.Row.{Row}
use Rattle.bf_base.specs.Tables.{IsKeyWithin, cell, key_of}
use Rattle.bf_base.specs.declared.value.Value.{Value}
use Rattle.bf_sql.specs.Queries.{changed}
use Rattle.bf_sql.specs.RowObjections.{change_objections}
use Rattle.bf_live.specs.Replies.{admitted_at, write_of}
use Rattle.bf_tree.proofs.Stopping.{has_item, next_ahead}
use Rattle.bf_query.proofs.Gathering.{gathered_more}
use Rattle.bf_query.proofs.change.plan_update.Goals as goal

pub key_of-requires : goal.key_of-requires
key_of-requires c = has_item (λ (row : Bor Row). row.now) c.args.rows.now c.loop-row.row-index c.row-item.result c.loop-row-test.true c.row-item.is (IsKeyWithin c.args.table.now) c.requires

pub loop-row-preserved : goal.loop-row-preserved
loop-row-preserved c = record {
  writes = gathered_more (λ (row : Bor Row). row.now) c.args.rows.now c.loop-row.row-index c.row-item.result c.loop-row-test.true c.row-item.is
      (λ (row : Bor Row). write_of c.args.table.now (key_of c.args.table.now row.now) (Some (changed cell (λ place. place) c.args.sets.now row.now)))
      c.loop-row.writes c.write.new.self (c.in_ok-key.key, Some c.in_ok-new.new) c.loop-row.invariant.writes c.in_ok-write.ensures.ok (ap₂ (λ (key row : List Value). (key, Some row)) c.in_ok-key.ensures c.in_ok-new.ensures.1);
  objections = next_ahead (λ (row : Bor Row). row.now) c.args.rows.now c.loop-row.row-index c.row-item.result c.loop-row-test.true c.row-item.is (change_objections cell (admitted_at c.args.table.now) c.args.sets.now) _ c.loop-row.invariant.objections c.in_ok-new.ensures.0;
}
