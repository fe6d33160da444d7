use Rattle.bf_phrase.proofs.Moves.{after_can, after_go, after_stop, exit, named_go, named_stop, return_can, return_fits, return_passed, then_can, then_go, then_stop}
use Rattle.bf_phrase.proofs.Phrases.{expr_can}
use Rattle.bf_phrase.proofs.part.Tuple2NameRawExprPart.read.Goals as goal

pub returns-in_err-column-clause-fits : goal.returns-in_err-column-clause-fits
returns-in_err-column-clause-fits c = exit _ c.from_residual.result _ c.from_residual.ensures.1 (named_stop c.in_err-column.ensures.found (λ n. after_can (then_can expr_can (λ a. return_can))))

pub returns-in_err-rest-clause-fits : goal.returns-in_err-rest-clause-fits
returns-in_err-rest-clause-fits c = exit _ c.from_residual-in_err-rest.result _ c.from_residual-in_err-rest.ensures.1 (named_go c.in_ok-column.ensures.found (after_stop c.in_err-rest.ensures.found (then_can expr_can (λ a. return_can))))

pub returns-in_err-expr-clause-fits : goal.returns-in_err-expr-clause-fits
returns-in_err-expr-clause-fits c = exit _ c.from_residual-in_err-expr.result _ c.from_residual-in_err-expr.ensures.1 (named_go c.in_ok-column.ensures.found (after_go c.in_ok-rest.ensures.found (then_stop _ (return_passed (λ t p. p)) (λ a. return_can) c.in_err-expr.ensures.fits)))

pub returns-clause-fits : goal.returns-clause-fits
returns-clause-fits c = named_go c.in_ok-column.ensures.found (after_go c.in_ok-rest.ensures.found (then_go (return_passed (λ t p. p)) c.in_ok-expr.ensures.fits return_fits))
