use Rattle.std.proofs.Common.{◌≡◌, length, take}
use Rattle.bf_trackers.specs.Units.{AreMade}
use Rattle.bf_trackers.proofs.units.UnitTrackers.of.Given as goal

abbrev pub invariant-loop-number : goal.invariant-loop-number
invariant-loop-number l = record {
  made : AreMade (take l.number l.shapes) l.done l.units.items l.seats.items;
  as_many : length l.units.items ≡ l.number;
}
