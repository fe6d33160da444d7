use Rattle.std.proofs.Common.{◌≡◌, ◌++◌}
use Rattle.std.specs.Vec.Iter.{into_iter_items}
use Rattle.bf_live.specs.Commits.{HaveRoomFor, with_writes}
use Rattle.bf_live.specs.Live.{rows_in}
use Rattle.bf_live.specs.Puts.{all_puts}
use Rattle.bf_live.proofs.puts.put_all.Given as goal

-- the rows of the tables so far are put, and there is room for those that are left
abbrev pub invariant-loop-one : goal.invariant-loop-one
invariant-loop-one l = record {
  left : l.yielded ++ into_iter_items l.one-iterator ≡ into_iter_items l.initial.one-iterator;
  rows : rows_in l.heaps.entries ≡ with_writes (all_puts l.yielded) (rows_in l.fn.heaps.entries);
  room : HaveRoomFor (all_puts (into_iter_items l.one-iterator)) l.heaps.entries;
}
