use Rattle.std.proofs.Common.{◌∷◌, [], codes}
use Rattle.bf_text.specs.Replies.{body_text}
use Rattle.bf_text.proofs.Putting.{nothing, one_more, puts_last, puts_cut}
use Rattle.bf_text.proofs.replies.ReplyCounted.put_counted.Goals as goal

pub returns-in_err-put_place : goal.returns-in_err-put_place
returns-in_err-put_place c =
    puts_cut (codes " " ∷ body_text c.args.session c.args.number c.args.self.now ∷ []) _ _ _ (nothing _) c.from_residual.ensures.0 c.in_err-put_place.ensures

pub returns-in_err-put : goal.returns-in_err-put
returns-in_err-put c =
    puts_cut (body_text c.args.session c.args.number c.args.self.now ∷ []) _ _ _ (one_more _ (nothing _) c.in_ok-put_place.ensures)
    c.from_residual-in_err-put.ensures.0 c.in_err-put.ensures

pub returns : goal.returns
returns c = puts_last _ _ _ (one_more _ (one_more _ (nothing _) c.in_ok-put_place.ensures) c.in_ok-put.ensures) c.put_body.ensures
