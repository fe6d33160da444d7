use Rattle.bf_phrase.proofs.Maps.{other_word}
use Rattle.bf_phrase.proofs.Moves.{exit, after_go, after_stop, left_here, right_here, after_not_here}
use Rattle.bf_parse.proofs.Tables.{either_can}
use Rattle.bf_parse.proofs.create.create.Goals as goal

pub returns-in_err-rest-clause-fits : goal.returns-in_err-rest-clause-fits
returns-in_err-rest-clause-fits c = exit _ c.from_residual.result _ c.from_residual.ensures.1 (after_stop c.in_err-rest.ensures.found either_can)

pub returns-in-Some-clause-fits : goal.returns-in-Some-clause-fits
returns-in-Some-clause-fits c = after_go c.in_ok-rest.ensures.found (right_here (other_word c.in-Some.ensures.found.it (λ d. cc)) c.index.ensures.fits)

pub returns-in-None-clause-fits : goal.returns-in-None-clause-fits
returns-in-None-clause-fits c = after_go c.in_ok-rest.ensures.found (left_here (after_not_here c.in-None.ensures.found) c.table.ensures.fits)
