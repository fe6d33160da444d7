use Rattle.bf_phrase.proofs.Listings.{constant_part}
use Rattle.bf_phrase.proofs.Moves.{exit}
use Rattle.bf_parse.proofs.statement.tuple.Goals as goal

pub enclosed_list-requires-clause-part : goal.enclosed_list-requires-clause-part
enclosed_list-requires-clause-part c = constant_part

pub returns-in_err-values-clause-fits : goal.returns-in_err-values-clause-fits
returns-in_err-values-clause-fits c = exit _ c.from_residual.result _ c.from_residual.ensures.1 c.in_err-values.ensures.fits

pub returns-clause-fits : goal.returns-clause-fits
returns-clause-fits c = rw c.of.ensures c.in_ok-values.ensures.fits
