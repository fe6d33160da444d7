use Rattle.std.proofs.Common.{refl}
use Rattle.bf_parse.proofs.MigrateShapes.{target_can, targets_can}
use Rattle.bf_phrase.proofs.Moves.{after_can, after_go, after_passed, after_stop, exit, marked_can, return_can, return_fits, then_can, then_go, then_stop}
use Rattle.bf_parse.proofs.migrate.migrate.Goals as goal

pub returns-in_err-rest-clause-fits : goal.returns-in_err-rest-clause-fits
returns-in_err-rest-clause-fits c =
    exit _ c.from_residual.result _ c.from_residual.ensures.1 (after_stop c.in_err-rest.ensures.found (after_can (then_can (then_can (marked_can target_can) (λ t. targets_can)) (λ targets. after_can return_can))))

pub returns-in_err-rest-2-clause-fits : goal.returns-in_err-rest-2-clause-fits
returns-in_err-rest-2-clause-fits c =
    exit _ c.from_residual-in_err-rest-2.result _ c.from_residual-in_err-rest-2.ensures.1
    (after_go c.in_ok-rest.ensures.found (after_stop c.in_err-rest-2.ensures.found (then_can (then_can (marked_can target_can) (λ t. targets_can)) (λ targets. after_can return_can))))

pub returns-in_err-found-clause-fits : goal.returns-in_err-found-clause-fits
returns-in_err-found-clause-fits c =
    exit _ c.from_residual-in_err-found.result _ c.from_residual-in_err-found.ensures.1
    (after_go c.in_ok-rest.ensures.found (after_go c.in_ok-rest-2.ensures.found (then_stop _ (after_passed refl) (λ targets. after_can return_can) c.in_err-found.ensures.fits)))

pub returns-in_err-rest-3-clause-fits : goal.returns-in_err-rest-3-clause-fits
returns-in_err-rest-3-clause-fits c =
    exit _ c.from_residual-in_err-rest-3.result _ c.from_residual-in_err-rest-3.ensures.1
    (after_go c.in_ok-rest.ensures.found (after_go c.in_ok-rest-2.ensures.found (then_go (after_passed refl) c.in_ok-found.ensures.fits (after_stop c.in_err-rest-3.ensures.found return_can))))

pub returns-clause-fits : goal.returns-clause-fits
returns-clause-fits c =
    rw c.of-targets.ensures (after_go c.in_ok-rest.ensures.found (after_go c.in_ok-rest-2.ensures.found (then_go (after_passed refl) c.in_ok-found.ensures.fits (after_go c.in_ok-rest-3.ensures.found return_fits))))
