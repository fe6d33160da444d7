use Rattle.std.proofs.Common.{sym, ◌∙◌}
use Rattle.bf_phrase.proofs.Listings.{aggregate_part, expression_part}
use Rattle.bf_phrase.proofs.Moves.{exit}
use Rattle.bf_parse.proofs.Queries.{star_list, totals_go, totals_stop, exprs_go, exprs_stop}
use Rattle.bf_parse.proofs.query.select_list.Goals as goal

pub list-requires-clause-part : goal.list-requires-clause-part
list-requires-clause-part c = aggregate_part

pub returns-in_err-totals-in-None-clause-fits : goal.returns-in_err-totals-in-None-clause-fits
returns-in_err-totals-in-None-clause-fits c =
    exit _ c.from_residual.result _ c.from_residual.ensures.1 (totals_stop _ c.in-None.ensures.found (sym c.begins_aggregate.ensures ∙ c.if-begins_aggregate.true) c.in_err-totals-in-None.ensures.fits)

pub list-requires-else-begins_aggregate-clause-part : goal.list-requires-else-begins_aggregate-clause-part
list-requires-else-begins_aggregate-clause-part c = expression_part

pub returns-in_err-exprs-in-None-clause-fits : goal.returns-in_err-exprs-in-None-clause-fits
returns-in_err-exprs-in-None-clause-fits c =
    exit _ c.from_residual-in_err-exprs-in-None.result _ c.from_residual-in_err-exprs-in-None.ensures.1
    (exprs_stop _ c.in-None.ensures.found (sym c.begins_aggregate.ensures ∙ c.if-begins_aggregate.false) c.in_err-exprs-in-None.ensures.fits)

pub returns-in-Some-clause-fits : goal.returns-in-Some-clause-fits
returns-in-Some-clause-fits c = star_list c.in-Some.ensures.found

pub returns-in_ok-totals-in-None-clause-fits : goal.returns-in_ok-totals-in-None-clause-fits
returns-in_ok-totals-in-None-clause-fits c = rw c.of.ensures (totals_go c.in-None.ensures.found (sym c.begins_aggregate.ensures ∙ c.if-begins_aggregate.true) c.in_ok-totals-in-None.ensures.fits)

pub returns-in_ok-exprs-in-None-clause-fits : goal.returns-in_ok-exprs-in-None-clause-fits
returns-in_ok-exprs-in-None-clause-fits c = rw c.of-else-begins_aggregate.ensures (exprs_go c.in-None.ensures.found (sym c.begins_aggregate.ensures ∙ c.if-begins_aggregate.false) c.in_ok-exprs-in-None.ensures.fits)
