use Rattle.std.proofs.Common.{◌∷◌, []}
use Rattle.bf_text.specs.Replies.{values_text}
use Rattle.bf_text.proofs.Putting.{nothing, one_more, puts_last, puts_cut}
use Rattle.bf_text.proofs.replies.put_between.Goals as goal

pub returns-in_err-put : goal.returns-in_err-put
returns-in_err-put c = puts_cut (values_text c.args.values.now ∷ c.args.back.now ∷ []) _ _ _ (nothing _) c.from_residual.ensures.0 c.in_err-put.ensures

pub returns-in_err-put_listed : goal.returns-in_err-put_listed
returns-in_err-put_listed c =
    puts_cut (c.args.back.now ∷ []) _ _ _ (one_more _ (nothing _) c.in_ok-put.ensures) c.from_residual-in_err-put_listed.ensures.0 c.in_err-put_listed.ensures

pub returns : goal.returns
returns c = puts_last _ _ _ (one_more _ (one_more _ (nothing _) c.in_ok-put.ensures) c.in_ok-put_listed.ensures) c.put-2.ensures
