use Rattle.std.proofs.Common.{[]}
use Rattle.bf_trackers.specs.Migrations.{HoldsClaims}
use Rattle.tracker_tests.proofs.Standing.{granted, not_granted}
use Rattle.tracker_tests.proofs.migrations.finish_if_free.Goals as goal

pub finish-requires : goal.finish-requires
finish-requires g c = record {
  holds = ([], granted (HoldsClaims c.args.trackers.now) c.args.granule.now c.args.seats.now c.claim.new.seats c.requires.spent c.in_ok-claim.field-0 c.in_ok-claim.ensures.holds c.in-Claimed.claim c.in-Claimed.is);
}

pub returns-in-Claimed : goal.returns-in-Claimed
returns-in-Claimed g c = record {
  spent = c.finish.ensures.holds [] (granted (HoldsClaims c.args.trackers.now) c.args.granule.now c.args.seats.now c.claim.new.seats c.requires.spent c.in_ok-claim.field-0 c.in_ok-claim.ensures.holds c.in-Claimed.claim c.in-Claimed.is);
}

pub returns-in-Busy : goal.returns-in-Busy
returns-in-Busy g c = record {
  spent = not_granted (HoldsClaims c.args.trackers.now) c.args.granule.now c.args.seats.now c.claim.new.seats c.requires.spent c.in_ok-claim.field-0 c.in_ok-claim.ensures.holds c.in-Busy.is;
}
