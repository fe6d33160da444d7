use Rattle.std.proofs.Common.{◌≡◌, ◌≤◌, ◌-◌, true, length, take}
use Rattle.std.specs.List.{list_all}
use Rattle.bf_heap.specs.KeyRanges.{is_before}
use Rattle.bf_transpose.proofs.bounds.values_before.Given as goal

-- the values up to the lower end are before the range
abbrev pub invariant-loop-low : goal.invariant-loop-low
invariant-loop-low l = record {
  ends : l.low ≤ l.high;
  within : l.high ≤ length l.values;
  before : list_all (λ entry. is_before l.range.low entry.0) (take l.low l.values) ≡ true;
}

abbrev pub decreases-loop-low : goal.decreases-loop-low
decreases-loop-low l = l.high - l.low
