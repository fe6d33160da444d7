use Rattle.bf_phrase.proofs.Moves.{after_can, after_go, after_passed, after_stop, exit, return_can, return_fits, then_can, then_go, then_stop}
use Rattle.std.proofs.Common.{refl}
use Rattle.bf_phrase.proofs.Phrases.{expr_can}
use Rattle.bf_phrase.proofs.clause.enclosed.Goals as goal

pub returns-in_err-rest-clause-fits : goal.returns-in_err-rest-clause-fits
returns-in_err-rest-clause-fits c = exit _ c.from_residual.result _ c.from_residual.ensures.1 (after_stop c.in_err-rest.ensures.found (then_can expr_can (λ a. after_can return_can)))

pub returns-in_err-expr-clause-fits : goal.returns-in_err-expr-clause-fits
returns-in_err-expr-clause-fits c = exit _ c.from_residual-in_err-expr.result _ c.from_residual-in_err-expr.ensures.1 (after_go c.in_ok-rest.ensures.found (then_stop _ (after_passed refl) (λ a. after_can return_can) c.in_err-expr.ensures.fits))

pub returns-in_err-rest-2-clause-fits : goal.returns-in_err-rest-2-clause-fits
returns-in_err-rest-2-clause-fits c = exit _ c.from_residual-in_err-rest-2.result _ c.from_residual-in_err-rest-2.ensures.1 (after_go c.in_ok-rest.ensures.found (then_go (after_passed refl) c.in_ok-expr.ensures.fits (after_stop c.in_err-rest-2.ensures.found return_can)))

pub returns-clause-fits : goal.returns-clause-fits
returns-clause-fits c = after_go c.in_ok-rest.ensures.found (then_go (after_passed refl) c.in_ok-expr.ensures.fits (after_go c.in_ok-rest-2.ensures.found return_fits))
