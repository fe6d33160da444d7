use Rattle.std.proofs.Common.{◌++◌, codes}
use Rattle.bf_text.proofs.Loops.{cut_mapped}
use Rattle.bf_text.proofs.Putting.{puts_first, puts_behind, puts_front}
use Rattle.bf_text.proofs.pieces.put_further.Goals as goal

pub returns-in_err-put : goal.returns-in_err-put
returns-in_err-put g c =
    cut_mapped (g.T.Piece.text c.args.place) (λ y. codes ", " ++ y) c.args.pieces.now _ _ _ _ _ _ c.loop-piece-test.true c.piece-item.is c.from_residual.ensures.0
    c.loop-piece.invariant (puts_first _ (codes ", ") _ _ _ c.from_residual.ensures.0 c.in_err-put.ensures)

pub returns-in_err-put_at : goal.returns-in_err-put_at
returns-in_err-put_at g c =
    cut_mapped (g.T.Piece.text c.args.place) (λ y. codes ", " ++ y) c.args.pieces.now _ _ _ _ _ _ c.loop-piece-test.true c.piece-item.is c.from_residual-in_err-put_at.ensures.0
    c.loop-piece.invariant (puts_behind _ (codes ", ") _ _ _ _ c.in_ok-put.ensures (puts_front _ _ _ _ c.from_residual-in_err-put_at.ensures.0 c.in_err-put_at.ensures))
