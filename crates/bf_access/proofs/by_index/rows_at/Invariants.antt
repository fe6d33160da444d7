use Rattle.std.proofs.Common.{◌≡◌, ◌++◌, map}
use Rattle.std.specs.Vec.Iter.{into_iter_items}
use Rattle.bf_access.specs.ByIndex.{entries_at}
use Rattle.bf_access.proofs.by_index.rows_at.Given as goal

-- the rows under the keys so far
abbrev pub invariant-loop-key : goal.invariant-loop-key
invariant-loop-key l = record {
  can : (goal.iterator-loop-key).can_next l.key-iterator;
  ends : (goal.iterator-loop-key).is_finite l.key-iterator;
  left : l.yielded ++ into_iter_items l.key-iterator ≡ l.fn.keys.items;
  found : map (λ entry. (entry.0, entry.1.now)) l.rows.items ≡ entries_at l.heap.entries l.yielded;
}
