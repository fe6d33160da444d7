use Rattle.std.proofs.Common.{◌∷◌, [], codes}
use Rattle.bf_text.specs.Replies.{numbered}
use Rattle.bf_text.proofs.Putting.{nothing, one_more, puts_last, puts_cut}
use Rattle.bf_text.proofs.reports.put_running.Goals as goal

pub returns-in_err-put_decimal : goal.returns-in_err-put_decimal
returns-in_err-put_decimal c =
    puts_cut (numbered (codes " moved ") c.args.moved ∷ numbered (codes " next unit ") c.args.unit ∷ numbered (codes " position ") c.args.position ∷ []) _ _ _ (nothing _)
    c.from_residual.ensures.0 c.in_err-put_decimal.ensures

pub returns-in_err-put_numbered : goal.returns-in_err-put_numbered
returns-in_err-put_numbered c =
    puts_cut (numbered (codes " next unit ") c.args.unit ∷ numbered (codes " position ") c.args.position ∷ []) _ _ _ (one_more _ (nothing _) c.in_ok-put_decimal.ensures)
    c.from_residual-in_err-put_numbered.ensures.0 c.in_err-put_numbered.ensures

pub returns-in_err-put_numbered-2 : goal.returns-in_err-put_numbered-2
returns-in_err-put_numbered-2 c =
    puts_cut (numbered (codes " position ") c.args.position ∷ []) _ _ _ (one_more _ (one_more _ (nothing _) c.in_ok-put_decimal.ensures) c.in_ok-put_numbered.ensures)
    c.from_residual-in_err-put_numbered-2.ensures.0 c.in_err-put_numbered-2.ensures

pub returns : goal.returns
returns c =
    puts_last _ _ _ (one_more _ (one_more _ (one_more _ (nothing _) c.in_ok-put_decimal.ensures) c.in_ok-put_numbered.ensures) c.in_ok-put_numbered-2.ensures)
    c.put_numbered-3.ensures
