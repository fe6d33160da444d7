use Rattle.std.proofs.Common.{◌≡◌, [], map, ◌++◌}
use Rattle.std.specs.List.{flat_map}
use Rattle.std.specs.Vec.Iter.{into_iter_items}
use Rattle.bf_totals.specs.RunningTotals.{running_total, end_objections, total_cell}
use Rattle.bf_totals.proofs.running.finished.Given as goal

abbrev pub invariant-loop-total : goal.invariant-loop-total
invariant-loop-total l = record {
  can : (goal.iterator-loop-total).can_next l.total-iterator;
  ends : (goal.iterator-loop-total).is_finite l.total-iterator;
  left : l.yielded ++ into_iter_items l.total-iterator ≡ l.fn.running.items;
  ended : l.cells.items ≡ map total_cell (map running_total l.yielded);
  none : flat_map end_objections (map running_total l.yielded) ≡ [];
}
