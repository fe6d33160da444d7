use Rattle.std.proofs.Common.{◌∙◌, ap, sym, Some}
use Rattle.std.specs.List.{slice_get}
use Rattle.bf_trackers.specs.declared.units.UnitTracker.TheVariants.{Keys}
use Rattle.bf_trackers.specs.Holding.{IsClaimOf}
use Rattle.bf_trackers.specs.Seats.{found_at}
use Rattle.bf_trackers.proofs.Claiming.{claim_there, key_ends, not_none, not_of_keys, row_ends, row_finished, row_held, there}
use Rattle.bf_trackers.proofs.units.UnitTrackers.end.Goals as goal

pub end_row-requires-clause-own : goal.end_row-requires-clause-own
end_row-requires-clause-own g c =
    let r = c.requires.holds in
    row_held c.args.self.now c.args.granule.now c.in-Some-Rows.bits (ap Some (sym c.in-Some-Rows.field-0-is) ∙ c.in-Some-Rows.ensures) c.args.claim c.in-Row.claim c.in-Row.is c.args.seats.now r.0 r.1

pub unreachable-requires-in_default-claim : goal.unreachable-requires-in_default-claim
unreachable-requires-in_default-claim g c =
    let r = c.requires.holds in
    not_of_keys c.args.claim c.in-Some-Keys.stripes (there (IsClaimOf c.args.claim) (slice_get c.args.self.now c.args.granule.now.unit) (Keys c.in-Some-Keys.stripes) (ap Some (sym c.in-Some-Keys.field-0-is) ∙ c.in-Some-Keys.ensures)
    (claim_there c.args.self.now c.args.granule.now c.args.seats.now c.args.claim r.0 r.1)) c.in_default-claim.not-Group

pub unreachable-requires-in-None : goal.unreachable-requires-in-None
unreachable-requires-in-None g c =
    let r = c.requires.holds in
    not_none (IsClaimOf c.args.claim) (slice_get c.args.self.now c.args.granule.now.unit) c.in-None.ensures (claim_there c.args.self.now c.args.granule.now c.args.seats.now c.args.claim r.0 r.1)

pub returns-in-Row-clause-holds : goal.returns-in-Row-clause-holds
returns-in-Row-clause-holds g c = λ rest h.
    row_ends c.args.self.now c.args.granule.now c.in-Some-Rows.bits (ap Some (sym c.in-Some-Rows.field-0-is) ∙ c.in-Some-Rows.ensures) c.args.claim c.in-Row.claim c.in-Row.is c.args.seats.now c.args.ending
    (found_at c.end_row.new.self c.args.granule.now.unit) c.end_row.new.self c.end_row.ensures.step rest h

pub returns-in-Row-clause-finished : goal.returns-in-Row-clause-finished
returns-in-Row-clause-finished g c =
    let r = c.requires.holds in
    row_finished c.args.self.now c.args.granule.now c.in-Some-Rows.bits (ap Some (sym c.in-Some-Rows.field-0-is) ∙ c.in-Some-Rows.ensures) c.args.claim c.in-Row.claim c.in-Row.is c.args.seats.now c.args.ending
    (found_at c.end_row.new.self c.args.granule.now.unit) c.end_row.new.self c.end_row.ensures.step r.0 r.1

pub returns-in-Group-clause-holds : goal.returns-in-Group-clause-holds
returns-in-Group-clause-holds g c = λ rest h.
    key_ends c.args.self.now c.args.granule.now c.in-Some-Keys.stripes (ap Some (sym c.in-Some-Keys.field-0-is) ∙ c.in-Some-Keys.ensures) c.args.claim c.in-Group.claim c.in-Group.is c.args.seats.now c.drop_key.new.self c.drop_key.ensures rest h
