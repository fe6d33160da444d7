use Rattle.bf_phrase.proofs.Moves.{exit}
use Rattle.bf_phrase.proofs.Maps.{map_go, map_stop}
use Rattle.bf_phrase.proofs.Phrases.{expr_maps}
use Rattle.bf_phrase.proofs.clause.expression.Goals as goal

pub returns-in_err-expr-clause-fits : goal.returns-in_err-expr-clause-fits
returns-in_err-expr-clause-fits c = exit _ c.from_residual.result _ c.from_residual.ensures.1 (map_stop _ expr_maps c.in_err-expr.ensures.fits)

pub returns-clause-fits : goal.returns-clause-fits
returns-clause-fits c = map_go expr_maps c.in_ok-expr.ensures.fits
