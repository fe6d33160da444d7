use Rattle.std.proofs.Common.{◌∷◌, [], codes}
use Rattle.bf_text.specs.Replies.{newline}
use Rattle.bf_text.specs.Report.{outcome_text}
use Rattle.bf_text.proofs.Putting.{nothing, one_more, puts_last, puts_cut}
use Rattle.bf_text.proofs.reports.EntryCounted.put_counted.Goals as goal

pub returns-in_err-put_span : goal.returns-in_err-put_span
returns-in_err-put_span c =
    puts_cut (codes " " ∷ outcome_text c.args.self.now.outcome ∷ newline ∷ []) _ _ _
    (nothing c.args.out.now.items)
    c.from_residual.ensures.0 c.in_err-put_span.ensures

pub returns-in_err-put : goal.returns-in_err-put
returns-in_err-put c =
    puts_cut (outcome_text c.args.self.now.outcome ∷ newline ∷ []) _ _ _
    (one_more _ (nothing c.args.out.now.items) c.in_ok-put_span.ensures)
    c.from_residual-in_err-put.ensures.0 c.in_err-put.ensures

pub returns-in_err-put_outcome : goal.returns-in_err-put_outcome
returns-in_err-put_outcome c =
    puts_cut (newline ∷ []) _ _ _
    (one_more _ (one_more _ (nothing c.args.out.now.items) c.in_ok-put_span.ensures) c.in_ok-put.ensures)
    c.from_residual-in_err-put_outcome.ensures.0 c.in_err-put_outcome.ensures

pub returns : goal.returns
returns c =
    puts_last _ _ _ (one_more _ (one_more _ (one_more _ (nothing c.args.out.now.items) c.in_ok-put_span.ensures) c.in_ok-put.ensures) c.in_ok-put_outcome.ensures) c.put-2.ensures
