use Rattle.std.proofs.Common.{◌≡◌, map, take, None}
use Rattle.bf_base.specs.Tables.{key_of}
use Rattle.bf_txn.specs.Writes.{gathered}
use Rattle.bf_live.specs.Replies.{write_of}
use Rattle.bf_query.proofs.change.plan_delete.Given as goal

-- the rows so far have their writes
abbrev pub invariant-loop-row : goal.invariant-loop-row
invariant-loop-row l = l.writes ≡ gathered (map (λ row. write_of l.table (key_of l.table row.now) None) (take l.row-index l.rows))
