use Rattle.std.proofs.Common.{◌≡◌, length}
use Rattle.bf_transpose.proofs.Looked.{AreUnitsTo}
use Rattle.bf_transpose.proofs.scan.units_for.Given as goal

-- the units so far, one for each number
abbrev pub invariant-loop-number : goal.invariant-loop-number
invariant-loop-number l = record {
  counted : length l.units.items ≡ l.number;
  each : AreUnitsTo l.migration l.target l.number l.units.items;
}
