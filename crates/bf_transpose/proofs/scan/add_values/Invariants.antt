use Rattle.std.proofs.Common.{◌≡◌, ◌++◌, map, take}
use Rattle.bf_index.specs.ByValues.{value_of}
use Rattle.bf_transpose.specs.Scans.{value_granules}
use Rattle.bf_transpose.proofs.scan.add_values.Given as goal

-- the granules of the values so far
abbrev pub invariant-loop-at : goal.invariant-loop-at
invariant-loop-at l = l.granules.items ≡ l.fn.granules.items ++ value_granules l.unit (map value_of (take l.at l.values))
