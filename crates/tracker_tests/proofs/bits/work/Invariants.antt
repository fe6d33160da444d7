use Rattle.std.proofs.Common.{◌≡◌, ◌≤◌, []}
use Rattle.tracker_tests.proofs.bits.work.Given as goal

abbrev pub invariant-loop-at : goal.invariant-loop-at
invariant-loop-at l =
    record {
      own : l.seat.table ≡ l.bits.table;
      held : l.seat.view.held ≡ [];
      few : l.moved ≤ l.at;
    }
