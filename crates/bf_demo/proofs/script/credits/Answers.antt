use Rattle.bf_demo.proofs.Steps.{credited_more}
use Rattle.bf_demo.proofs.script.credits.Goals as goal

pub loop-j-preserved : goal.loop-j-preserved
loop-j-preserved c =
    credited_more _ _ c.loop-j.j _ _ _ _ _ c.loop-j.invariant c.in_ok-push.ensures.items c.in_ok-push-2.ensures.items c.in_ok-push-3.ensures.items c.in_ok-addition.ensures
