use Rattle.bf_phrase.proofs.Moves.{exit}
use Rattle.bf_phrase.proofs.Comparisons.{column_stop, column_read, value_stop, value_read}
use Rattle.bf_phrase.proofs.condition.operand.Goals as goal

pub returns-in_err-column-in-Other-clause-fits : goal.returns-in_err-column-in-Other-clause-fits
returns-in_err-column-in-Other-clause-fits c = exit _ c.from_residual.result _ c.from_residual.ensures.1 (column_stop _ c.in-Other.ensures.start c.in_err-column-in-Other.ensures.fits)

pub returns-in_ok-column-in-Other-clause-fits : goal.returns-in_ok-column-in-Other-clause-fits
returns-in_ok-column-in-Other-clause-fits c = column_read c.in-Other.ensures.start c.in_ok-column-in-Other.ensures.fits

pub returns-in_err-value-in_default-clause-fits : goal.returns-in_err-value-in_default-clause-fits
returns-in_err-value-in_default-clause-fits c =
    exit _ c.from_residual-in_err-value-in_default.result _ c.from_residual-in_err-value-in_default.ensures.1 (value_stop _ c.start.ensures.start c.in_default.not-Other c.in_err-value-in_default.ensures.fits)

pub returns-in_ok-value-in_default-clause-fits : goal.returns-in_ok-value-in_default-clause-fits
returns-in_ok-value-in_default-clause-fits c = value_read c.start.ensures.start c.in_default.not-Other c.in_ok-value-in_default.ensures.fits
