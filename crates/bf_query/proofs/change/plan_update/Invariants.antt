use Rattle.std.proofs.Common.{◌≡◌, map, take, drop, Some}
use Rattle.std.specs.Prelude.{flat_map}
use Rattle.bf_base.specs.Tables.{cell, key_of}
use Rattle.bf_sql.specs.Queries.{changed}
use Rattle.bf_sql.specs.RowObjections.{change_objections}
use Rattle.bf_txn.specs.Writes.{gathered}
use Rattle.bf_live.specs.Replies.{admitted_at, write_of}
use Rattle.bf_query.proofs.change.plan_update.Given as goal

-- the rows so far have their writes, and the rows from here on have all objections
abbrev pub invariant-loop-row : goal.invariant-loop-row
invariant-loop-row l = record {
  writes : l.writes ≡ gathered (map (λ row. write_of l.table (key_of l.table row.now) (Some (changed cell (λ place. place) l.sets row.now))) (take l.row-index l.rows));
  objections : flat_map (change_objections cell (admitted_at l.table) l.sets) (map (λ row. row.now) (drop l.row-index l.rows)) ≡ flat_map (change_objections cell (admitted_at l.table) l.sets) (map (λ row. row.now) l.rows);
}
