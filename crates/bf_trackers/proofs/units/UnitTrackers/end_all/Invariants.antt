use Rattle.std.proofs.Common.{◌≡◌, List, ◌++◌, length}
use Rattle.bf_drive.specs.Lists.{Entry}
use Rattle.bf_trackers.specs.Holding.{AreFinished, HoldClaims}
use Rattle.bf_trackers.proofs.units.UnitTrackers.end_all.Given as goal

abbrev pub decreases-loop-granule : goal.decreases-loop-granule
decreases-loop-granule g l = length l.wip

abbrev pub invariant-loop-granule : goal.invariant-loop-granule
invariant-loop-granule g l = record {
  holds : HoldClaims l.self l.seats l.wip;
  finished : (spent : List Entry) × (l.wip ++ spent ≡ l.initial.wip) × AreFinished l.ending spent l.initial.seats l.seats;
}
