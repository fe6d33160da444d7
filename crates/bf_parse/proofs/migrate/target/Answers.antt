use Rattle.bf_phrase.proofs.Clears.{then_assoc}
use Rattle.bf_phrase.proofs.Moves.{after_can, after_go, after_stop, exit, named_can, named_go, named_stop, return_can, return_fits, return_passed, then_go, then_stop}
use Rattle.bf_parse.proofs.TargetParts.{arms_end_can}
use Rattle.bf_parse.proofs.migrate.target.Goals as goal

pub returns-in_err-rest-clause-fits : goal.returns-in_err-rest-clause-fits
returns-in_err-rest-clause-fits c = exit _ c.from_residual.result _ c.from_residual.ensures.1 (after_stop c.in_err-rest.ensures.found (after_can (named_can (λ name. after_can (arms_end_can name)))))

pub returns-in_err-rest-2-clause-fits : goal.returns-in_err-rest-2-clause-fits
returns-in_err-rest-2-clause-fits c =
    exit _ c.from_residual-in_err-rest-2.result _ c.from_residual-in_err-rest-2.ensures.1 (after_go c.in_ok-rest.ensures.found (after_stop c.in_err-rest-2.ensures.found (named_can (λ name. after_can (arms_end_can name)))))

pub returns-in_err-name-clause-fits : goal.returns-in_err-name-clause-fits
returns-in_err-name-clause-fits c =
    exit _ c.from_residual-in_err-name.result _ c.from_residual-in_err-name.ensures.1
    (after_go c.in_ok-rest.ensures.found (after_go c.in_ok-rest-2.ensures.found (named_stop c.in_err-name.ensures.found (λ name. after_can (arms_end_can name)))))

pub returns-in_err-rest-3-clause-fits : goal.returns-in_err-rest-3-clause-fits
returns-in_err-rest-3-clause-fits c =
    exit _ c.from_residual-in_err-rest-3.result _ c.from_residual-in_err-rest-3.ensures.1
    (after_go c.in_ok-rest.ensures.found (after_go c.in_ok-rest-2.ensures.found (named_go c.in_ok-name.ensures.found (after_stop c.in_err-rest-3.ensures.found (arms_end_can _)))))

pub returns-in_err-found-clause-fits : goal.returns-in_err-found-clause-fits
returns-in_err-found-clause-fits c =
    exit _ c.from_residual-in_err-found.result _ c.from_residual-in_err-found.ensures.1
    (after_go c.in_ok-rest.ensures.found (after_go c.in_ok-rest-2.ensures.found (named_go c.in_ok-name.ensures.found (after_go c.in_ok-rest-3.ensures.found (then_assoc (then_stop _ (return_passed (λ t p. p)) (λ arms. return_can) c.in_err-found.ensures.fits))))))

pub returns-clause-fits : goal.returns-clause-fits
returns-clause-fits c =
    rw c.of-arms.ensures
    (after_go c.in_ok-rest.ensures.found (after_go c.in_ok-rest-2.ensures.found (named_go c.in_ok-name.ensures.found (after_go c.in_ok-rest-3.ensures.found (then_assoc (then_go (return_passed (λ t p. p)) c.in_ok-found.ensures.fits return_fits))))))
