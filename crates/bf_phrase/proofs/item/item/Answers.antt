use Rattle.std.proofs.Common.{◌∙◌, sym}
use Rattle.bf_phrase.proofs.Items.{sum_stop, sum_item, total_stop, total_open, total_unnamed, total_item}
use Rattle.bf_phrase.proofs.Moves.{exit}
use Rattle.bf_phrase.proofs.item.item.Goals as goal

pub returns-in_err-total-clause-fits : goal.returns-in_err-total-clause-fits
returns-in_err-total-clause-fits c = exit _ c.from_residual.result _ c.from_residual.ensures.1 (total_stop _ (sym c.begins_aggregate.ensures ∙ c.if-begins_aggregate.true) c.in_err-total.ensures.fits)

pub returns-in_err-rest-clause-fits : goal.returns-in_err-rest-clause-fits
returns-in_err-rest-clause-fits c =
    exit _ c.from_residual-in_err-rest.result _ c.from_residual-in_err-rest.ensures.1
    (total_open (sym c.begins_aggregate.ensures ∙ c.if-begins_aggregate.true) c.in_ok-total.ensures.fits c.in_err-rest.ensures.found)

pub returns-in_err-name-clause-fits : goal.returns-in_err-name-clause-fits
returns-in_err-name-clause-fits c =
    exit _ c.from_residual-in_err-name.result _ c.from_residual-in_err-name.ensures.1
    (total_unnamed (sym c.begins_aggregate.ensures ∙ c.if-begins_aggregate.true) c.in_ok-total.ensures.fits c.in_ok-rest.ensures.found c.in_err-name.ensures.found)

pub returns-in_ok-name-clause-fits : goal.returns-in_ok-name-clause-fits
returns-in_ok-name-clause-fits c =
    total_item (sym c.begins_aggregate.ensures ∙ c.if-begins_aggregate.true) c.in_ok-total.ensures.fits c.in_ok-rest.ensures.found c.in_ok-name.ensures.found

pub returns-in_err-expr-clause-fits : goal.returns-in_err-expr-clause-fits
returns-in_err-expr-clause-fits c =
    exit _ c.from_residual-in_err-expr.result _ c.from_residual-in_err-expr.ensures.1
    (sum_stop _ (sym c.begins_aggregate.ensures ∙ c.if-begins_aggregate.false) c.in_err-expr.ensures.fits)

pub returns-in_ok-expr-clause-fits : goal.returns-in_ok-expr-clause-fits
returns-in_ok-expr-clause-fits c = sum_item (sym c.begins_aggregate.ensures ∙ c.if-begins_aggregate.false) c.in_ok-expr.ensures.fits c.behind.ensures.fits
