use Rattle.std.proofs.Common.{◌∷◌, [], map, codes}
use Rattle.bf_text.specs.Replies.{newline, cell_text, listed}
use Rattle.bf_text.proofs.Putting.{nothing, one_more, puts_last, puts_cut}
use Rattle.bf_text.proofs.replies.SequenceCellPiece.put_at.Goals as goal

pub returns-in_err-put_place : goal.returns-in_err-put_place
returns-in_err-put_place c =
    puts_cut (codes " | " ∷ listed (map cell_text c.args.self.now) ∷ newline ∷ []) _ _ _ (nothing _) c.from_residual.ensures.0 c.in_err-put_place.ensures

pub returns-in_err-put : goal.returns-in_err-put
returns-in_err-put c =
    puts_cut (listed (map cell_text c.args.self.now) ∷ newline ∷ []) _ _ _ (one_more _ (nothing _) c.in_ok-put_place.ensures)
    c.from_residual-in_err-put.ensures.0 c.in_err-put.ensures

pub returns-in_err-put_listed : goal.returns-in_err-put_listed
returns-in_err-put_listed c =
    rw (← c.as_slice.ensures)
    (puts_cut (newline ∷ []) _ _ _ (one_more _ (one_more _ (nothing _) c.in_ok-put_place.ensures) c.in_ok-put.ensures)
    c.from_residual-in_err-put_listed.ensures.0 c.in_err-put_listed.ensures)

pub returns : goal.returns
returns c =
    rw (← c.as_slice.ensures)
    (puts_last _ _ _ (one_more _ (one_more _ (one_more _ (nothing _) c.in_ok-put_place.ensures) c.in_ok-put.ensures) c.in_ok-put_listed.ensures) c.put-2.ensures)
