use Rattle.std.proofs.Common.{◌≡◌, ◌≤◌, ◌+◌, ◌++◌, fold, length}
use Rattle.std.specs.Vec.Iter.{into_iter_items}
use Rattle.bf_live.specs.Merged.{applied_to}
use Rattle.bf_live.specs.Puts.{put_writes}
use Rattle.bf_live.proofs.puts.put_each.Given as goal

-- the rows so far are put, and there is room for those that are left
abbrev pub invariant-loop-key : goal.invariant-loop-key
invariant-loop-key l = record {
  left : l.yielded ++ into_iter_items l.key-iterator ≡ into_iter_items l.initial.key-iterator;
  made : l.heap.entries ≡ fold applied_to l.fn.heap.entries (put_writes l.yielded);
  room : length (into_iter_items l.key-iterator) ≤ l.heap.spare;
  spare : l.fn.heap.spare + length (into_iter_items l.key-iterator) ≤ l.heap.spare + length (into_iter_items l.initial.key-iterator);
}
