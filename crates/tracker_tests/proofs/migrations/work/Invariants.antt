use Rattle.std.proofs.Common.{[]}
use Rattle.bf_trackers.specs.Migrations.{HoldsClaims}
use Rattle.tracker_tests.proofs.migrations.work.Given as goal

abbrev pub invariant-loop-granule : goal.invariant-loop-granule
invariant-loop-granule g l = HoldsClaims l.trackers l.seats []
