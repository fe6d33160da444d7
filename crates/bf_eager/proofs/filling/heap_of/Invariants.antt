use Rattle.std.proofs.Common.{◌≡◌, ◌≤◌, ◌++◌, length}
use Rattle.std.specs.Vec.Iter.{into_iter_items}
use Rattle.bf_eager.specs.Starting.{entries_in_order}
use Rattle.bf_eager.proofs.filling.heap_of.Given as goal

-- the rows so far are in the heap, which has room for those that are left
abbrev pub invariant-loop-row : goal.invariant-loop-row
invariant-loop-row l = record {
  left : l.yielded ++ into_iter_items l.row-iterator ≡ l.fn.rows.items;
  filled : l.heap.entries ≡ entries_in_order l.table l.yielded;
  room : length (into_iter_items l.row-iterator) ≤ l.heap.spare;
}
