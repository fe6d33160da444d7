use Rattle.std.proofs.Common.{sym, ap, subst, ℕ, ◌/◌, ◌<◌, bit_and}
use Rattle.std.specs.Int.{bit_not}
use mir.Syntax.{w64}
use mathlib.Core.Option.{none}
use Rattle.atomic_table.specs.Seated.{TableId}
use Rattle.atomic_table.specs.Table.{step, Allows}
use Rattle.bf_bits.specs.Tracker.{Tracks}
use Rattle.bf_bits.specs.Steps.{given_back}
use Rattle.bf_bits.proofs.Counting.{within-fewer}
use Rattle.bf_bits.proofs.Moves.{gives}
use Rattle.bf_bits.proofs.Told.{give_step, given_at, IsGiveStep, seat_of, kept_seat, held_inside, same_at, same_table}
use Rattle.bf_bits.proofs.bits.Bits.give_back.Goals as goal

pub fetch_and-requires : goal.fetch_and-requires
fetch_and-requires c =
    let t = c.self.inside.table.shared in
    let kept = c.self.invariant in
    let seat = c.seat.inside.seat in
    let at = c.claim.inside.at in
    let own = same_table _ _ _ _ _ _ c.seat.view_is c.self.view_is c.requires.own in
    let has = held_inside _ _ _ _ _ c.seat.view_is (same_at c.claim.view_is) c.requires.held in
    let within = subst (λ (t : TableId). at / 32 < t.words) own (c.seat.invariant.within at has) in
    let P : ℕ × ℕ × ℕ → Type 0 = λ z. Allows (Tracks z.0 z.2) t.table_id.slots seat.id seat.me (at / 32) (λ n. bit_and n z.1) (given_back (step t.table_id.slots (at / 32) z.1 0 none) seat.me) in
    (own, within, subst P (λ i. (sym kept.same_words i, bit_not w64 (sym c.lock_mask.ensures i), sym kept.same_granules i)) (gives t.table_id.words c.self.inside.granules t.table_id.slots seat.id seat.me at within has))

stepped : (c : goal.After-fetch_and) → IsGiveStep c.args.claim.at c.args.seat.now (seat_of c.fetch_and.new.seat.table_id c.fetch_and.new.seat.me)
stepped c =
    subst (λ (at : ℕ). IsGiveStep at c.args.seat.now (seat_of c.fetch_and.new.seat.table_id c.fetch_and.new.seat.me)) (same_at c.claim.view_is)
    (give_step c.self.inside.table.shared.table_id.slots c.claim.inside.at (bit_not w64 c.lock_mask.result) c.fetch_and.result _ _ c.seat.inside.seat.me c.fetch_and.new.seat.me c.args.seat.now c.seat.view_is (ap (bit_not w64) c.lock_mask.ensures) c.fetch_and.ensures.0 c.fetch_and.ensures.2)

pub returns-clause-step : goal.returns-clause-step
returns-clause-step c = (stepped c).0

pub returns-clause-found : goal.returns-clause-found
returns-clause-found c = (stepped c).1

pub invariant_of-seat : goal.invariant_of-seat
invariant_of-seat c =
    let seat = c.seat.inside.seat in
    let e = c.fetch_and.ensures in
    let told = given_at c.self.inside.table.shared.table_id.slots c.claim.inside.at (bit_not w64 c.lock_mask.result) c.fetch_and.result seat.me c.fetch_and.new.seat.me (ap (bit_not w64) c.lock_mask.ensures) e.2 in
    kept_seat seat.table_id c.fetch_and.new.seat.table_id seat.me c.fetch_and.new.seat.me _ e.0 told.0 c.seat.invariant.no_slots (within-fewer seat.table_id.words c.claim.inside.at seat.me.0.held c.seat.invariant.within)
