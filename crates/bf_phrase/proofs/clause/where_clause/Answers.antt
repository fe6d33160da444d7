use Rattle.bf_phrase.proofs.Moves.{exit}
use Rattle.bf_phrase.proofs.Phrases.{where_go, where_none, where_stop}
use Rattle.bf_phrase.proofs.clause.where_clause.Goals as goal

pub returns-in-None-clause-fits : goal.returns-in-None-clause-fits
returns-in-None-clause-fits c = where_none c.in-None.ensures.found

pub returns-in_err-cond-in-Some-clause-fits : goal.returns-in_err-cond-in-Some-clause-fits
returns-in_err-cond-in-Some-clause-fits c = exit _ c.from_residual.result _ c.from_residual.ensures.1 (where_stop _ c.in-Some.ensures.found c.in_err-cond-in-Some.ensures.fits)

pub returns-in_ok-cond-in-Some-clause-fits : goal.returns-in_ok-cond-in-Some-clause-fits
returns-in_ok-cond-in-Some-clause-fits c = where_go c.in-Some.ensures.found c.in_ok-cond-in-Some.ensures.fits
