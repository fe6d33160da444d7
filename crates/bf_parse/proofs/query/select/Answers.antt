use Rattle.bf_phrase.proofs.Moves.{after_can, after_go, after_passed, after_stop, exit, named_can, named_go, named_stop, return_can, return_fits, return_passed, then_can, then_go, then_stop}
use Rattle.std.proofs.Common.{refl}
use Rattle.bf_parse.proofs.Queries.{list_can}
use Rattle.bf_phrase.proofs.Phrases.{where_can}
use Rattle.bf_parse.proofs.query.select.Goals as goal

pub returns-in_err-rest-clause-fits : goal.returns-in_err-rest-clause-fits
returns-in_err-rest-clause-fits c = exit _ c.from_residual.result _ c.from_residual.ensures.1 (after_stop c.in_err-rest.ensures.found (then_can list_can (λ a. after_can (named_can (λ n. then_can where_can (λ a. return_can))))))

pub returns-in_err-list-clause-fits : goal.returns-in_err-list-clause-fits
returns-in_err-list-clause-fits c = exit _ c.from_residual-in_err-list.result _ c.from_residual-in_err-list.ensures.1 (after_go c.in_ok-rest.ensures.found (then_stop _ (after_passed refl) (λ a. after_can (named_can (λ n. then_can where_can (λ a. return_can)))) c.in_err-list.ensures.fits))

pub returns-in_err-rest-2-clause-fits : goal.returns-in_err-rest-2-clause-fits
returns-in_err-rest-2-clause-fits c = exit _ c.from_residual-in_err-rest-2.result _ c.from_residual-in_err-rest-2.ensures.1 (after_go c.in_ok-rest.ensures.found (then_go (after_passed refl) c.in_ok-list.ensures.fits (after_stop c.in_err-rest-2.ensures.found (named_can (λ n. then_can where_can (λ a. return_can))))))

pub returns-in_err-table-clause-fits : goal.returns-in_err-table-clause-fits
returns-in_err-table-clause-fits c = exit _ c.from_residual-in_err-table.result _ c.from_residual-in_err-table.ensures.1 (after_go c.in_ok-rest.ensures.found (then_go (after_passed refl) c.in_ok-list.ensures.fits (after_go c.in_ok-rest-2.ensures.found (named_stop c.in_err-table.ensures.found (λ n. then_can where_can (λ a. return_can))))))

pub returns-in_err-cond-clause-fits : goal.returns-in_err-cond-clause-fits
returns-in_err-cond-clause-fits c = exit _ c.from_residual-in_err-cond.result _ c.from_residual-in_err-cond.ensures.1 (after_go c.in_ok-rest.ensures.found (then_go (after_passed refl) c.in_ok-list.ensures.fits (after_go c.in_ok-rest-2.ensures.found (named_go c.in_ok-table.ensures.found (then_stop _ (return_passed (λ t p. p)) (λ a. return_can) c.in_err-cond.ensures.fits)))))

pub returns-clause-fits : goal.returns-clause-fits
returns-clause-fits c = after_go c.in_ok-rest.ensures.found (then_go (after_passed refl) c.in_ok-list.ensures.fits (after_go c.in_ok-rest-2.ensures.found (named_go c.in_ok-table.ensures.found (then_go (return_passed (λ t p. p)) c.in_ok-cond.ensures.fits return_fits))))
