use Rattle.std.proofs.Common.{◌∙◌, ap, sym, Some}
use Rattle.bf_trackers.specs.Seats.{found_at}
use Rattle.bf_trackers.proofs.Claiming.{row_stands}
use Rattle.bf_trackers.proofs.Seating.{row_seat}
use Rattle.bf_trackers.proofs.units.UnitTrackers.claim.Goals as goal

pub claim_row-requires-clause-own : goal.claim_row-requires-clause-own
claim_row-requires-clause-own g c =
    row_seat c.args.self.now c.args.seats.now.units c.requires.own c.args.granule.now.unit c.in-Some-Rows.bits c.args.seats.now.count (sym (ap Some (sym c.in-Some-Rows.field-0-is) ∙ c.in-Some-Rows.ensures))

pub returns-in-Row-clause-holds : goal.returns-in-Row-clause-holds
returns-in-Row-clause-holds g c =
    row_stands c.args.self.now c.args.granule.now c.in-Some-Rows.bits (ap Some (sym c.in-Some-Rows.field-0-is) ∙ c.in-Some-Rows.ensures) c.in-Row.at c.in-Row.is c.args.seats.now c.claim_row.new.self
    c.claim_row.result (found_at c.claim_row.new.self c.args.granule.now.unit) c.requires.own c.claim_row.ensures.answer c.claim_row.ensures.step
