use Rattle.std.proofs.Common.{arith, append_assoc}
use Rattle.bf_text.proofs.Loops.{counted_next, cut_counted}
use Rattle.bf_text.proofs.Putting.{puts_front}
use Rattle.bf_text.proofs.pieces.put_all_counted.Goals as goal

pub returns-in_err-put_counted : goal.returns-in_err-put_counted
returns-in_err-put_counted g c =
    cut_counted (g.T.Counted.text c.args.whole) 1 c.args.things.now _ _ _ _ _ _ c.loop-index-test.true c.index-things-index.is c.from_residual.ensures.0 c.loop-index.invariant
    (puts_front _ _ _ _ c.from_residual.ensures.0 c.in_err-put_counted.ensures)

pub loop-index-preserved : goal.loop-index-preserved
loop-index-preserved g c =
    let next = counted_next (g.T.Counted.text c.args.whole) 1 c.args.things.now c.loop-index.index c.index-things-index.result c.loop-index-test.true c.index-things-index.is in
    grind (arith, next, append_assoc)
