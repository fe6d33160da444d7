use Rattle.std.proofs.Common.{◌≡◌, ◌++◌, map}
use Rattle.bf_base.specs.Tables.{cell}
use Rattle.bf_sql.specs.Queries.{selected}
use Rattle.bf_live.specs.Merged.{rows_ahead, steps_ahead}
use Rattle.bf_query.specs.RowsAhead.{entries_ahead}
use Rattle.bf_query.proofs.merge.scan.Given as goal

-- what has been found, and what satisfies the condition ahead
abbrev pub invariant-loop-next : goal.invariant-loop-next
invariant-loop-next l =
    map (λ row. row.now) l.found.items ++ selected cell l.cond (rows_ahead (entries_ahead l.merge.rows) l.merge.writes)
    ≡ selected cell l.cond (rows_ahead (entries_ahead l.fn.rows) l.fn.writes)

abbrev pub decreases-loop-next : goal.decreases-loop-next
decreases-loop-next l = steps_ahead (entries_ahead l.merge.rows) l.merge.writes
