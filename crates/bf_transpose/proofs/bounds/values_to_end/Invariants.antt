use Rattle.std.proofs.Common.{◌≡◌, ◌≤◌, ◌-◌, true, drop, length}
use Rattle.std.specs.List.{list_all}
use Rattle.bf_heap.specs.KeyRanges.{is_behind}
use Rattle.bf_transpose.proofs.bounds.values_to_end.Given as goal

-- the values from the upper end on are behind the range
abbrev pub invariant-loop-low : goal.invariant-loop-low
invariant-loop-low l = record {
  ends : l.low ≤ l.high;
  within : l.high ≤ length l.values;
  behind : list_all (λ entry. is_behind l.range.high entry.0) (drop l.high l.values) ≡ true;
}

abbrev pub decreases-loop-low : goal.decreases-loop-low
decreases-loop-low l = l.high - l.low
