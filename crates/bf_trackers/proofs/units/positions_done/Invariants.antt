use Rattle.std.proofs.Common.{◌≡◌, take}
use Rattle.bf_trackers.specs.Units.{positions_in}
use Rattle.bf_trackers.proofs.units.positions_done.Given as goal

abbrev pub invariant-loop-granule : goal.invariant-loop-granule
invariant-loop-granule l = l.positions.items ≡ positions_in l.unit (take l.granule-index l.done)
