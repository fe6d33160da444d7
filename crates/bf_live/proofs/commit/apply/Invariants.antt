use Rattle.std.proofs.Common.{◌≡◌, ◌++◌}
use Rattle.bf_txn.specs.Writes.{all_writes}
use Rattle.bf_live.specs.Commits.{HaveRoomFor, with_writes}
use Rattle.bf_live.specs.Live.{rows_in}
use Rattle.bf_live.proofs.commit.apply.Given as goal

-- the writes to the tables so far are made, and there is room for those that are left
abbrev pub invariant-loop-table : goal.invariant-loop-table
invariant-loop-table l = record {
  left : all_writes (l.yielded ++ l.table-iterator) ≡ l.fn.writes;
  rows : rows_in l.heaps.entries ≡ with_writes (all_writes l.yielded) (rows_in l.fn.heaps.entries);
  room : HaveRoomFor (all_writes l.table-iterator) l.heaps.entries;
}
