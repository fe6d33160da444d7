use Rattle.bf_phrase.proofs.Moves.{after_can, after_go, after_stop, exit, return_can, return_fits, then_can, then_go, then_stop}
use Rattle.bf_phrase.proofs.Columns.{int_checked, int_plain, varchar_here}
use Rattle.bf_phrase.proofs.Maps.{any_passed}
use Rattle.bf_phrase.proofs.Numbers.{number_can}
use Rattle.bf_phrase.proofs.column.form.Goals as goal

pub returns-in_err-rest-in-None-clause-fits : goal.returns-in_err-rest-in-None-clause-fits
returns-in_err-rest-in-None-clause-fits c = exit _ c.from_residual.result _ c.from_residual.ensures.1 (varchar_here c.in-None.ensures.found (after_stop c.in_err-rest-in-None.ensures.found (after_can (then_can number_can (λ a. after_can return_can)))))

pub returns-in_err-rest-in-None-2-clause-fits : goal.returns-in_err-rest-in-None-2-clause-fits
returns-in_err-rest-in-None-2-clause-fits c = exit _ c.from_residual-in_err-rest-in-None-2.result _ c.from_residual-in_err-rest-in-None-2.ensures.1 (varchar_here c.in-None.ensures.found (after_go c.in_ok-rest-in-None.ensures.found (after_stop c.in_err-rest-in-None-2.ensures.found (then_can number_can (λ a. after_can return_can)))))

pub returns-in_err-most-in-None-clause-fits : goal.returns-in_err-most-in-None-clause-fits
returns-in_err-most-in-None-clause-fits c = exit _ c.from_residual-in_err-most-in-None.result _ c.from_residual-in_err-most-in-None.ensures.1 (varchar_here c.in-None.ensures.found (after_go c.in_ok-rest-in-None.ensures.found (after_go c.in_ok-rest-in-None-2.ensures.found (then_stop _ any_passed (λ a. after_can return_can) c.in_err-most-in-None.ensures.fits))))

pub returns-in_err-rest-in-None-3-clause-fits : goal.returns-in_err-rest-in-None-3-clause-fits
returns-in_err-rest-in-None-3-clause-fits c = exit _ c.from_residual-in_err-rest-in-None-3.result _ c.from_residual-in_err-rest-in-None-3.ensures.1 (varchar_here c.in-None.ensures.found (after_go c.in_ok-rest-in-None.ensures.found (after_go c.in_ok-rest-in-None-2.ensures.found (then_go any_passed c.in_ok-most-in-None.ensures.fits (after_stop c.in_err-rest-in-None-3.ensures.found return_can)))))

pub returns-in-None-keyword-clause-fits : goal.returns-in-None-keyword-clause-fits
returns-in-None-keyword-clause-fits c = int_plain c.in-Some.ensures.found c.in-None-keyword.ensures.found

pub returns-in-Some-keyword-clause-fits : goal.returns-in-Some-keyword-clause-fits
returns-in-Some-keyword-clause-fits c = int_checked c.in-Some.ensures.found c.in-Some-keyword.ensures.found c.check.ensures.fits

pub returns-in_ok-rest-in-None-3-clause-fits : goal.returns-in_ok-rest-in-None-3-clause-fits
returns-in_ok-rest-in-None-3-clause-fits c = varchar_here c.in-None.ensures.found (after_go c.in_ok-rest-in-None.ensures.found (after_go c.in_ok-rest-in-None-2.ensures.found (then_go any_passed c.in_ok-most-in-None.ensures.fits (after_go c.in_ok-rest-in-None-3.ensures.found return_fits))))
