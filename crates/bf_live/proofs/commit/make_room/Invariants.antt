use Rattle.std.proofs.Common.{◌≡◌, ◌++◌, map}
use Rattle.std.specs.Map.Iter.{deref_pair}
use Rattle.bf_txn.specs.Writes.{AreTables, all_writes}
use Rattle.bf_live.specs.Commits.{HaveRoomSoFar}
use Rattle.bf_live.specs.Live.{rows_in}
use Rattle.bf_live.proofs.commit.make_room.Given as goal

-- the tables so far have room for all writes to them
abbrev pub invariant-loop-table : goal.invariant-loop-table
invariant-loop-table l = record {
  left : all_writes (map deref_pair l.yielded ++ l.table-iterator) ≡ l.writes;
  tables : AreTables (map deref_pair l.yielded ++ l.table-iterator);
  rows : rows_in l.heaps.entries ≡ rows_in l.initial.heaps.entries;
  room : HaveRoomSoFar (all_writes (map deref_pair l.yielded)) l.writes l.heaps.entries;
}
