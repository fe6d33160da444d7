use Rattle.std.proofs.Common.{◌≡◌, ◌++◌, map}
use Rattle.bf_index.specs.ByValues.{value_of}
use Rattle.bf_transpose.specs.InOrder.{values_in}
use Rattle.bf_transpose.specs.Merging.{steps_ahead, values_ahead}
use Rattle.bf_transpose.specs.Scans.{value_granules}
use Rattle.bf_transpose.proofs.scan.add_merged.Given as goal

-- the granules so far, and those of the values that are ahead
abbrev pub invariant-loop-value : goal.invariant-loop-value
invariant-loop-value l =
    l.granules.items ++ value_granules l.unit (values_ahead l.values)
    ≡ l.fn.granules.items ++ value_granules l.unit (values_in (map value_of l.from ++ map value_of l.join))

abbrev pub decreases-loop-value : goal.decreases-loop-value
decreases-loop-value l = steps_ahead l.values
