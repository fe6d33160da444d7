use Rattle.std.proofs.Common.{◌≡◌, ◌++◌}
use Rattle.std.specs.Vec.Iter.{into_iter_items}
use Rattle.bf_eager.specs.Sorting.{rows_made, with_rows}
use Rattle.bf_eager.proofs.gathering.sorted.Given as goal

-- the rows so far are sorted
abbrev pub invariant-loop-target : goal.invariant-loop-target
invariant-loop-target l = record {
  left : l.yielded ++ into_iter_items l.target-iterator ≡ l.fn.rows.items;
  sorted : rows_made l.made.items ≡ with_rows (rows_made l.fn.tables.items) l.yielded;
}
