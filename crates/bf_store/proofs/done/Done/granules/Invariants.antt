use Rattle.std.proofs.Common.{◌≡◌, ◌++◌, drop}
use Rattle.std.specs.Map.{keys_of}
use Rattle.bf_store.specs.ByUnit.{from_unit}
use Rattle.bf_store.proofs.done.Done.granules.Given as goal

-- the granules so far, and those of the units that are left
abbrev pub invariant-loop-at : goal.invariant-loop-at
invariant-loop-at l = l.granules.items ++ keys_of (from_unit l.at (drop l.at l.marks-items)) ≡ keys_of (from_unit 0 l.marks-items)
