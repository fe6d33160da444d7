use Rattle.std.proofs.Common.{◌≡◌, take}
use Rattle.bf_live.specs.Commits.{HaveRoomSoFar}
use Rattle.bf_live.specs.Live.{rows_in}
use Rattle.bf_live.specs.Puts.{all_puts}
use Rattle.bf_live.proofs.puts.make_room_for.Given as goal

-- the tables so far have room for all rows that are put into them
abbrev pub invariant-loop-one : goal.invariant-loop-one
invariant-loop-one l = record {
  rows : rows_in l.heaps.entries ≡ rows_in l.fn.heaps.entries;
  room : HaveRoomSoFar (all_puts (take l.one-index l.puts)) (all_puts l.puts) l.heaps.entries;
}
