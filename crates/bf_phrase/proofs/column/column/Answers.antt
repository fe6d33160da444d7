use Rattle.bf_phrase.proofs.Moves.{exit, named_go, named_stop, return_can, return_fits, return_passed, then_can, then_go, then_stop}
use Rattle.bf_phrase.proofs.Columns.{form_can}
use Rattle.bf_phrase.proofs.column.column.Goals as goal

pub returns-in_err-name-clause-fits : goal.returns-in_err-name-clause-fits
returns-in_err-name-clause-fits c = exit _ c.from_residual.result _ c.from_residual.ensures.1 (named_stop c.in_err-name.ensures.found (λ n. then_can form_can (λ a. return_can)))

pub returns-in_err-form-clause-fits : goal.returns-in_err-form-clause-fits
returns-in_err-form-clause-fits c = exit _ c.from_residual-in_err-form.result _ c.from_residual-in_err-form.ensures.1 (named_go c.in_ok-name.ensures.found (then_stop _ (return_passed (λ t p. p)) (λ a. return_can) c.in_err-form.ensures.fits))

pub returns-clause-fits : goal.returns-clause-fits
returns-clause-fits c = named_go c.in_ok-name.ensures.found (then_go (return_passed (λ t p. p)) c.in_ok-form.ensures.fits return_fits)
