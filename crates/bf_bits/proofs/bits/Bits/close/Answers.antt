use Rattle.std.proofs.Common.{◌<◌, ◌/◌, ◌∙◌, ap, sym, subst, List, ℕ}
use Rattle.std.specs.Prelude.{slice_index}
use Rattle.bf_bits.specs.Words.{migrate_in}
use Rattle.bf_bits.proofs.Ends.{closes}
use Rattle.bf_bits.specs.Seats.{HasFinished}
use Rattle.bf_bits.proofs.bits.Bits.close.Goals as goal

pub returns-clause-finished : goal.returns-clause-finished
returns-clause-finished c p has =
    let final = c.close_with-closed.ensures.values.2 in
    let seat = c.seat.inside.seat in
    let there = subst (λ s. HasFinished s p) (sym c.seat.view_is) has in
    let done = closes _ _ final.0 seat.id seat.me.0 final.1.0 final.1.1 p there in
    c.gather-done.ensures.all p (subst (λ (n : ℕ). p < n) c.self.invariant.same_granules done.0) (ap (λ (words : List ℕ). migrate_in (slice_index words (p / 32)) p) (sym final.2) ∙ done.1)
