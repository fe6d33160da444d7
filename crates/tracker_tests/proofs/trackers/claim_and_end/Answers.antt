use Rattle.std.proofs.Common.{List, sym, subst}
use Rattle.bf_drive.specs.Lists.{Entry}
use Rattle.bf_trackers.specs.Holding.{HoldClaims}
use Rattle.tracker_tests.proofs.Standing.{busy, done, granted}
use Rattle.tracker_tests.proofs.trackers.claim_and_end.Goals as goal

pub end_all-requires : goal.end_all-requires
end_all-requires g c =
    let held = granted (HoldClaims c.args.units.now) c.args.granule c.args.seats.now c.claim.new.seats c.requires.spent c.in_ok-claim.field-0 c.in_ok-claim.ensures.holds c.in-Claimed.claim c.in-Claimed.is in
    record { holds = subst (λ (es : List Entry). HoldClaims c.args.units.now c.claim.new.seats es) (sym c.one_claimed.ensures) held }

pub returns-in-Busy : goal.returns-in-Busy
returns-in-Busy g c = record {
  spent = busy (HoldClaims c.args.units.now) c.args.granule c.args.seats.now c.claim.new.seats c.requires.spent c.in_ok-claim.field-0 c.in_ok-claim.ensures.holds c.in-Busy.is;
}

pub returns : goal.returns
returns g c = record {
  spent = done (HoldClaims c.args.units.now) c.args.granule c.args.seats.now c.claim.new.seats c.requires.spent c.in_ok-claim.field-0 c.in_ok-claim.ensures.holds c.in-Done.is;
}
