use Rattle.std.proofs.Common.{◌≡◌, map, take}
use Rattle.bf_trackers.specs.Units.{new_seat_of}
use Rattle.bf_trackers.proofs.units.split_each.Given as goal

abbrev pub invariant-loop-number : goal.invariant-loop-number
invariant-loop-number l = record {
  same : l.seats ≡ l.initial.seats;
  new : l.new.items ≡ map new_seat_of (take l.number l.trackers);
}
