use Rattle.bf_phrase.proofs.Moves.{after_can, after_go, after_stop, exit, return_can, return_fits, then_can, then_go, then_stop}
use Rattle.bf_phrase.proofs.Maps.{any_passed}
use Rattle.bf_phrase.proofs.Columns.{range_can}
use Rattle.bf_phrase.proofs.column.check.Goals as goal

pub returns-in_err-rest-clause-fits : goal.returns-in_err-rest-clause-fits
returns-in_err-rest-clause-fits c = exit _ c.from_residual.result _ c.from_residual.ensures.1 (after_stop c.in_err-rest.ensures.found (after_can (then_can range_can (λ a. after_can return_can))))

pub returns-in_err-rest-2-clause-fits : goal.returns-in_err-rest-2-clause-fits
returns-in_err-rest-2-clause-fits c = exit _ c.from_residual-in_err-rest-2.result _ c.from_residual-in_err-rest-2.ensures.1 (after_go c.in_ok-rest.ensures.found (after_stop c.in_err-rest-2.ensures.found (then_can range_can (λ a. after_can return_can))))

pub returns-in_err-form-clause-fits : goal.returns-in_err-form-clause-fits
returns-in_err-form-clause-fits c = exit _ c.from_residual-in_err-form.result _ c.from_residual-in_err-form.ensures.1 (after_go c.in_ok-rest.ensures.found (after_go c.in_ok-rest-2.ensures.found (then_stop _ any_passed (λ a. after_can return_can) c.in_err-form.ensures.fits)))

pub returns-in_err-rest-3-clause-fits : goal.returns-in_err-rest-3-clause-fits
returns-in_err-rest-3-clause-fits c = exit _ c.from_residual-in_err-rest-3.result _ c.from_residual-in_err-rest-3.ensures.1 (after_go c.in_ok-rest.ensures.found (after_go c.in_ok-rest-2.ensures.found (then_go any_passed c.in_ok-form.ensures.fits (after_stop c.in_err-rest-3.ensures.found return_can))))

pub returns-clause-fits : goal.returns-clause-fits
returns-clause-fits c = after_go c.in_ok-rest.ensures.found (after_go c.in_ok-rest-2.ensures.found (then_go any_passed c.in_ok-form.ensures.fits (after_go c.in_ok-rest-3.ensures.found return_fits)))
