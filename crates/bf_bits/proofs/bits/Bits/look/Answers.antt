use Rattle.std.proofs.Common.{sym, subst, ℕ, ◌/◌}
use mathlib.Core.Option.{none}
use Rattle.atomic_table.specs.Table.{step, Allows}
use Rattle.bf_bits.specs.Tracker.{Tracks}
use Rattle.bf_bits.specs.Steps.{looked}
use Rattle.bf_bits.proofs.Moves.{looks}
use Rattle.bf_bits.proofs.Told.{same_table, word_within}
use Rattle.bf_bits.proofs.bits.Bits.look.Goals as goal

pub load-found-requires : goal.load-found-requires
load-found-requires c =
    let t = c.self.inside.table.shared in
    let kept = c.self.invariant in
    let seat = c.seat.inside.seat in
    let at = c.args.at in
    let there = word_within t.table_id c.self.inside.granules at c.args.self.now c.self.view_is kept.room c.requires.at in
    let P : ℕ × ℕ → Type 0 = λ z. Allows (Tracks z.0 z.1) t.table_id.slots seat.id seat.me (at / 32) (λ n. n) (looked (step t.table_id.slots (at / 32) 0 0 none) seat.me) in
    (same_table _ _ _ _ _ _ c.seat.view_is c.self.view_is c.requires.own, there.0, subst P (λ i. (sym kept.same_words i, sym kept.same_granules i)) (looks t.table_id.words c.self.inside.granules t.table_id.slots seat.id seat.me at there.0 there.1))
