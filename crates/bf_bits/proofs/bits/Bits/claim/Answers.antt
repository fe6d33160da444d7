use Rattle.std.proofs.Common.{◌≡◌, sym, ap, ◌∙◌, subst, ℕ, ◌/◌, ◌<◌, bit_or}
use mathlib.Core.Option.{none}
use Rattle.atomic_table.specs.Table.{step, Allows}
use Rattle.bf_bits.specs.Words.{state_in}
use Rattle.bf_bits.specs.Tracker.{Tracks}
use Rattle.bf_bits.specs.Steps.{claimed}
use Rattle.bf_bits.specs.declared.bits.BitAnswer.TheVariants.{Claimed}
use Rattle.bf_bits.specs.Answers.{answer_for}
use Rattle.bf_bits.proofs.Counting.{within-claimed}
use Rattle.bf_bits.proofs.Moves.{claims}
use Rattle.bf_bits.proofs.Told.{IsClaimStep, seat_of, claimed_at, claim_step, kept_seat, same_table, word_within}
use Rattle.bf_bits.proofs.bits.Bits.claim.Goals as goal
use Rattle.bf_bits.proofs.bits.Bits.claim.Goals.{in-Free, in-Held, in-Done}

pub fetch_or-found-requires : goal.fetch_or-found-requires
fetch_or-found-requires c =
    let t = c.self.inside.table.shared in
    let kept = c.self.invariant in
    let seat = c.seat.inside.seat in
    let there = word_within t.table_id c.self.inside.granules c.args.at c.args.self.now c.self.view_is kept.room c.requires.at in
    let P : ℕ × ℕ × ℕ → Type 0 = λ z. Allows (Tracks z.0 z.2) t.table_id.slots seat.id seat.me (c.args.at / 32) (λ n. bit_or n z.1) (claimed (step t.table_id.slots (c.args.at / 32) z.1 0 none) seat.me) in (
      same_table _ _ _ _ _ _ c.seat.view_is c.self.view_is c.requires.own,
      there.0,
      subst P (λ i. (sym kept.same_words i, sym c.lock_mask.ensures i, sym kept.same_granules i)) (claims t.table_id.words c.self.inside.granules t.table_id.slots seat.id seat.me c.args.at there.0 there.1),
    )

stepped : (c : goal.Joined-state_of) → (c.fetch_or-found.result ≡ c.fetch_or-found.new.seat.me.0.found) × IsClaimStep c.args.at c.args.seat.now (seat_of c.fetch_or-found.new.seat.table_id c.fetch_or-found.new.seat.me)
stepped c = claim_step c.self.inside.table.shared.table_id.slots c.args.at c.lock_mask.result c.fetch_or-found.result _ _ c.seat.inside.seat.me c.fetch_or-found.new.seat.me c.args.seat.now c.seat.view_is c.lock_mask.ensures c.fetch_or-found.ensures.0 c.fetch_or-found.ensures.2

answered : (c : goal.Joined-state_of) → c.match-state_of.result ≡ answer_for c.args.self.now.table c.args.at (state_in c.fetch_or-found.new.seat.me.0.found c.args.at)
answered c =
    let e = ap (answer_for c.args.self.now.table c.args.at) (c.state_of.ensures ∙ ap (λ (n : ℕ). state_in n c.args.at) (stepped c).0) in
    elim c.match-state_of.branch [
      | in-Free w ↦ w.result-is ∙ (ap Claimed w.grant.ensures ∙ (ap (answer_for c.args.self.now.table c.args.at) (sym w.in-Free.is) ∙ e))
      | in-Held w ↦ w.result-is ∙ (ap (answer_for c.args.self.now.table c.args.at) (sym w.in-Held.is) ∙ e)
      | in-Done w ↦ w.result-is ∙ (ap (answer_for c.args.self.now.table c.args.at) (sym w.in-Done.is) ∙ e)
    ]

pub returns-clause-answer : goal.returns-clause-answer
returns-clause-answer c = answered c

pub returns-clause-step : goal.returns-clause-step
returns-clause-step c = (stepped c).1.0

pub returns-clause-held : goal.returns-clause-held
returns-clause-held c has = answered c ∙ ap (answer_for c.args.self.now.table c.args.at) ((stepped c).1.1.held has)

pub returns-clause-finished : goal.returns-clause-finished
returns-clause-finished c has = answered c ∙ ap (answer_for c.args.self.now.table c.args.at) ((stepped c).1.1.finished has)

pub invariant_of-seat : goal.invariant_of-seat
invariant_of-seat c =
    let seat = c.seat.inside.seat in
    let e = c.fetch_or-found.ensures in
    let told = claimed_at c.self.inside.table.shared.table_id.slots c.args.at c.lock_mask.result c.fetch_or-found.result seat.me c.fetch_or-found.new.seat.me c.lock_mask.ensures e.2 in
    let own = same_table _ _ _ _ _ _ c.seat.view_is c.self.view_is c.requires.own in
    let there = word_within c.self.inside.table.shared.table_id c.self.inside.granules c.args.at c.args.self.now c.self.view_is c.self.invariant.room c.requires.at in
    let here = subst (λ t. c.args.at / 32 < t.words) (sym own) there.0 in
    kept_seat seat.table_id c.fetch_or-found.new.seat.table_id seat.me c.fetch_or-found.new.seat.me _ e.0 told.0 c.seat.invariant.no_slots (within-claimed seat.table_id.words c.args.at (state_in c.fetch_or-found.result c.args.at) seat.me.0.held here c.seat.invariant.within)
