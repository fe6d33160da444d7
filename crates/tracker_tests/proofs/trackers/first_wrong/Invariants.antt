use Rattle.std.proofs.Common.{[]}
use Rattle.bf_trackers.specs.Holding.{HoldClaims}
use Rattle.tracker_tests.proofs.trackers.first_wrong.Given as goal

abbrev pub invariant-loop-number : goal.invariant-loop-number
invariant-loop-number g l = HoldClaims l.units l.seats []
