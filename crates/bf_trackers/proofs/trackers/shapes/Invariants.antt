use Rattle.std.proofs.Common.{◌≡◌, take}
use Rattle.bf_trackers.specs.Migrations.{shapes_of}
use Rattle.bf_trackers.proofs.trackers.shapes.Given as goal

abbrev pub invariant-loop-number : goal.invariant-loop-number
invariant-loop-number l = l.shapes.items ≡ take l.number (shapes_of l.migration)
