use Rattle.std.proofs.Common.{◌≤◌, ◌*◌, []}
use Rattle.bf_trackers.specs.Holding.{HoldClaims}
use Rattle.tracker_tests.proofs.trackers.work.Given as goal

abbrev pub invariant-loop-at : goal.invariant-loop-at
invariant-loop-at g l = record {
  spent : HoldClaims l.units l.seats [];
  few : l.finished ≤ 2 * l.at;
}
