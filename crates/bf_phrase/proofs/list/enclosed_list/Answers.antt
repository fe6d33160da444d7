use Rattle.bf_phrase.proofs.Moves.{after_can, after_go, after_passed, after_stop, exit, return_can, return_fits, then_can, then_go, then_stop}
use Rattle.bf_phrase.proofs.Parts.{list_can, list_closing}
use Rattle.bf_phrase.proofs.list.enclosed_list.Goals as goal

pub returns-in_err-rest-clause-fits : goal.returns-in_err-rest-clause-fits
returns-in_err-rest-clause-fits g c = exit _ c.from_residual.result _ c.from_residual.ensures.1 (after_stop c.in_err-rest.ensures.found (then_can (list_can c.requires.part) (λ a. after_can return_can)))

pub returns-in_err-parts-clause-fits : goal.returns-in_err-parts-clause-fits
returns-in_err-parts-clause-fits g c = exit _ c.from_residual-in_err-parts.result _ c.from_residual-in_err-parts.ensures.1 (after_go c.in_ok-rest.ensures.found (then_stop _ (after_passed (list_closing c.requires.part)) (λ a. after_can return_can) c.in_err-parts.ensures.fits))

pub returns-in_err-rest-2-clause-fits : goal.returns-in_err-rest-2-clause-fits
returns-in_err-rest-2-clause-fits g c = exit _ c.from_residual-in_err-rest-2.result _ c.from_residual-in_err-rest-2.ensures.1 (after_go c.in_ok-rest.ensures.found (then_go (after_passed (list_closing c.requires.part)) c.in_ok-parts.ensures.fits (after_stop c.in_err-rest-2.ensures.found return_can)))

pub returns-clause-fits : goal.returns-clause-fits
returns-clause-fits g c = after_go c.in_ok-rest.ensures.found (then_go (after_passed (list_closing c.requires.part)) c.in_ok-parts.ensures.fits (after_go c.in_ok-rest-2.ensures.found return_fits))
