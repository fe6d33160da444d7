use Rattle.std.proofs.Common.{◌≡◌, ◌++◌}
use Rattle.bf_txn.specs.Writes.{all_writes}
use Rattle.bf_run.specs.Records.{writes_told}
use Rattle.bf_run.proofs.changes.commit_of.Given as goal

-- the writes to the tables so far are told
abbrev pub invariant-loop-table : goal.invariant-loop-table
invariant-loop-table l = l.told.items ++ writes_told l.live (all_writes l.table-iterator) ≡ writes_told l.live l.writes
