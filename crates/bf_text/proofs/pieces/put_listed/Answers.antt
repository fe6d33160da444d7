use Rattle.bf_text.proofs.Loops.{listed_first}
use Rattle.bf_text.proofs.Putting.{puts_behind}
use Rattle.bf_text.proofs.pieces.put_listed.Goals as goal

pub returns-in_ok-put_at-in-len1-up : goal.returns-in_ok-put_at-in-len1-up
returns-in_ok-put_at-in-len1-up g c =
    rw (listed_first (g.T.Piece.text c.args.place) c.args.pieces.now c.first-item.result c.in-len1-up.len_at_least c.first-item.is)
    (puts_behind _ _ _ _ _ _ c.in_ok-put_at-in-len1-up.ensures c.put_further.ensures)
