use Rattle.std.proofs.Common.{◌≡◌}
use Rattle.std.specs.List.{list_any}
use Rattle.bf_txn.specs.Writes.{all_writes}
use Rattle.bf_store.specs.Calls.{is_told}
use Rattle.bf_store.proofs.told.tells_any.Given as goal

-- the writes to the tables so far are not told
abbrev pub invariant-loop-table : goal.invariant-loop-table
invariant-loop-table l = list_any (is_told l.live) (all_writes l.table-iterator) ≡ list_any (is_told l.live) l.writes
