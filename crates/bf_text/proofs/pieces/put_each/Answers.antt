use Rattle.bf_text.proofs.Loops.{cut_each}
use Rattle.bf_text.proofs.Putting.{puts_front}
use Rattle.bf_text.proofs.pieces.put_each.Goals as goal

pub returns-in_err-put_at : goal.returns-in_err-put_at
returns-in_err-put_at g c =
    cut_each (g.T.Piece.text c.args.place) c.args.pieces.now _ _ _ _ _ _ c.loop-piece-test.true c.piece-item.is c.from_residual.ensures.0 c.loop-piece.invariant
    (puts_front _ _ _ _ c.from_residual.ensures.0 c.in_err-put_at.ensures)
