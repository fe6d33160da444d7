use Rattle.bf_demo.proofs.Steps.{opened_more}
use Rattle.bf_demo.proofs.script.openings.Goals as goal

pub loop-b-preserved : goal.loop-b-preserved
loop-b-preserved c = opened_more c.loop-b.b _ _ _ c.loop-b.invariant c.in_ok-push-2.ensures.items c.in_ok-opening.ensures
