use Rattle.std.proofs.Common.{◌≡◌, false}
use Rattle.bf_sql.specs.History.{run_group}
use Rattle.bf_live.specs.Live.{committed}
use Rattle.bf_live.specs.Open.{IsOpen}
use Rattle.bf_eager.proofs.Running.{run_from}
use Rattle.bf_eager.proofs.rows.replies_on_rows.Given as goal

-- the statements so far have their replies, and have left what is written
abbrev pub invariant-loop-place : goal.invariant-loop-place
invariant-loop-place l = record {
  opened : IsOpen l.live l.writes;
  ran : run_group l.commit false (committed l.live l.fn.writes) l.statements ≡ run_from l.commit l.place l.replies.items (committed l.live l.writes) l.statements;
}
