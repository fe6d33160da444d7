use Rattle.std.proofs.Common.{◌≡◌, [], map, take, drop}
use Rattle.std.specs.List.{flat_map}
use Rattle.bf_totals.specs.RunningTotals.{advanced, row_objections, running_total}
use Rattle.bf_totals.proofs.running.advance_all.Given as goal

abbrev pub invariant-loop-total : goal.invariant-loop-total
invariant-loop-total l = record {
  taken : take l.total-index (map running_total l.running) ≡ map (advanced l.row) (take l.total-index (map running_total l.initial.running));
  left : drop l.total-index (map running_total l.running) ≡ drop l.total-index (map running_total l.initial.running);
  none : flat_map (row_objections l.row) (take l.total-index (map running_total l.initial.running)) ≡ [];
}
