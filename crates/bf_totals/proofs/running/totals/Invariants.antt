use Rattle.std.proofs.Common.{◌≡◌, [], map, take}
use Rattle.std.specs.List.{flat_map}
use Rattle.bf_base.specs.Tables.{cell}
use Rattle.bf_tree.specs.ValueObjections.{argument_objections}
use Rattle.bf_totals.specs.RunningTotals.{running_total, running_total_after}
use Rattle.bf_totals.proofs.running.totals.Given as goal

abbrev pub invariant-loop-row : goal.invariant-loop-row
invariant-loop-row l = record {
  taken : map running_total l.running.items ≡ map (running_total_after (map (λ row. row.now) (take l.row-index l.rows))) l.totals;
  none : flat_map (λ row. flat_map (argument_objections cell row.now) l.totals) (take l.row-index l.rows) ≡ [];
}
