use Rattle.std.proofs.Common.{◌≡◌, ◌≤◌, ◌++◌, filter, length, map, take}
use Rattle.bf_index.specs.ByValues.{value_of}
use Rattle.bf_transpose.specs.Scans.{gives, value_granules}
use Rattle.bf_transpose.proofs.scan.Search.add_values.Given as goal

-- those of the values so far
abbrev pub invariant-loop-at : goal.invariant-loop-at
invariant-loop-at l = record {
  within : l.at ≤ length l.values;
  found : l.granules.items
      ≡ l.fn.granules.items ++ filter (gives l.self.migration.now l.self.target l.self.cond.now) (value_granules l.unit (map value_of (take l.at l.values)));
}
