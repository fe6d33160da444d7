use Rattle.std.proofs.Common.{refl}
use Rattle.bf_plan.proofs.Columns.{fails_at, never_fails}
use Rattle.bf_plan.proofs.target.expect_sure.Goals as goal

pub returns-in_ok-copy-in-Some : goal.returns-in_ok-copy-in-Some
returns-in_ok-copy-in-Some c = rw c.in_ok-copy-in-Some.ensures (fails_at c.args.target.now c.args.items.now c.in-Some.index c.in-Some.ensures.first)

pub returns-in-None : goal.returns-in-None
returns-in-None c = (never_fails c.args.target.now c.args.items.now c.in-None.ensures.first, refl)
