use Rattle.std.proofs.Common.{◌≡◌, [], map, take}
use Rattle.bf_totals.specs.RunningTotals.{running_total, running_total_after}
use Rattle.bf_totals.proofs.running.started.Given as goal

abbrev pub invariant-loop-total : goal.invariant-loop-total
invariant-loop-total l = map running_total l.running.items ≡ map (running_total_after []) (take l.total-index l.totals)
