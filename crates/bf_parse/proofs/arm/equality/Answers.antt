use Rattle.std.proofs.Common.{refl}
use Rattle.bf_phrase.proofs.Shapes.{ref_can}
use Rattle.bf_phrase.proofs.Moves.{after_can, after_go, after_passed, after_stop, exit, return_can, return_fits, return_passed, then_can, then_go, then_stop}
use Rattle.bf_parse.proofs.arm.equality.Goals as goal

pub returns-in_err-one-clause-fits : goal.returns-in_err-one-clause-fits
returns-in_err-one-clause-fits c = exit _ c.from_residual.result _ c.from_residual.ensures.1 (then_stop _ (after_passed refl) (λ a. after_can (then_can ref_can (λ b. return_can))) c.in_err-one.ensures.fits)

pub returns-in_err-rest-clause-fits : goal.returns-in_err-rest-clause-fits
returns-in_err-rest-clause-fits c =
    exit _ c.from_residual-in_err-rest.result _ c.from_residual-in_err-rest.ensures.1 (then_go (after_passed refl) c.in_ok-one.ensures.fits (after_stop c.in_err-rest.ensures.found (then_can ref_can (λ b. return_can))))

pub returns-in_err-other-clause-fits : goal.returns-in_err-other-clause-fits
returns-in_err-other-clause-fits c =
    exit _ c.from_residual-in_err-other.result _ c.from_residual-in_err-other.ensures.1
    (then_go (after_passed refl) c.in_ok-one.ensures.fits (after_go c.in_ok-rest.ensures.found (then_stop _ (return_passed (λ t p. p)) (λ b. return_can) c.in_err-other.ensures.fits)))

pub returns-clause-fits : goal.returns-clause-fits
returns-clause-fits c =
    then_go (after_passed refl) c.in_ok-one.ensures.fits (after_go c.in_ok-rest.ensures.found (then_go (return_passed (λ t p. p)) c.in_ok-other.ensures.fits return_fits))
