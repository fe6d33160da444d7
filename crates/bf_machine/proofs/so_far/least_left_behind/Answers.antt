-- The one before stays, but where it has ended.
use Rattle.std.proofs.Common.{sym, ◌∙◌, arith, inr}
use Rattle.bf_machine.proofs.keeping.LeastLeft.{not_ended_at}
use Rattle.bf_machine.proofs.so_far.least_left_behind.Goals as goal

pub returns-then-not-has_ended : goal.returns-then-not-has_ended
returns-then-not-has_ended c =
    inr (
      sym c.in-Some.is,
      λ is. not_ended_at c.args.sessions.now c.args.so_far.now c.args.place c.index-sessions-place.result c.index-so_far-place.result (omega (arith, c.requires.place, c.requires.each)) c.requires.place
          c.index-sessions-place.is c.index-so_far-place.is (sym c.has_ended.ensures ∙ c.if-not-has_ended.true),
    )
