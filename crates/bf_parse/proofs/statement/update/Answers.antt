use Rattle.bf_phrase.proofs.Moves.{after_can, after_go, after_stop, exit, named_can, named_go, named_stop, return_can, return_fits, return_passed, then_can, then_go, then_stop}
use Rattle.bf_phrase.proofs.Listings.{set_part}
use Rattle.bf_phrase.proofs.Phrases.{where_can}
use Rattle.bf_parse.proofs.Ordinaries.{sets_can, sets_passed, where_weaker}
use Rattle.bf_parse.proofs.statement.update.Goals as goal

pub returns-in_err-rest-clause-fits : goal.returns-in_err-rest-clause-fits
returns-in_err-rest-clause-fits c = exit _ c.from_residual.result _ c.from_residual.ensures.1 (after_stop c.in_err-rest.ensures.found (named_can (λ n. after_can (then_can sets_can (λ a. then_can where_can (λ a. return_can))))))

pub returns-in_err-table-clause-fits : goal.returns-in_err-table-clause-fits
returns-in_err-table-clause-fits c = exit _ c.from_residual-in_err-table.result _ c.from_residual-in_err-table.ensures.1 (after_go c.in_ok-rest.ensures.found (named_stop c.in_err-table.ensures.found (λ n. after_can (then_can sets_can (λ a. then_can where_can (λ a. return_can))))))

pub returns-in_err-rest-2-clause-fits : goal.returns-in_err-rest-2-clause-fits
returns-in_err-rest-2-clause-fits c = exit _ c.from_residual-in_err-rest-2.result _ c.from_residual-in_err-rest-2.ensures.1 (after_go c.in_ok-rest.ensures.found (named_go c.in_ok-table.ensures.found (after_stop c.in_err-rest-2.ensures.found (then_can sets_can (λ a. then_can where_can (λ a. return_can))))))

pub returns-in_err-sets-clause-fits : goal.returns-in_err-sets-clause-fits
returns-in_err-sets-clause-fits c = exit _ c.from_residual-in_err-sets.result _ c.from_residual-in_err-sets.ensures.1 (after_go c.in_ok-rest.ensures.found (named_go c.in_ok-table.ensures.found (after_go c.in_ok-rest-2.ensures.found (then_stop _ sets_passed (λ a. then_can where_can (λ a. return_can)) c.in_err-sets.ensures.fits))))

pub returns-in_err-cond-clause-fits : goal.returns-in_err-cond-clause-fits
returns-in_err-cond-clause-fits c = exit _ c.from_residual-in_err-cond.result _ c.from_residual-in_err-cond.ensures.1 (after_go c.in_ok-rest.ensures.found (named_go c.in_ok-table.ensures.found (after_go c.in_ok-rest-2.ensures.found (then_go sets_passed c.in_ok-sets.ensures.fits (then_stop _ (return_passed where_weaker) (λ a. return_can) c.in_err-cond.ensures.fits)))))

pub returns-clause-fits : goal.returns-clause-fits
returns-clause-fits c = rw c.of-sets.ensures (after_go c.in_ok-rest.ensures.found (named_go c.in_ok-table.ensures.found (after_go c.in_ok-rest-2.ensures.found (then_go sets_passed c.in_ok-sets.ensures.fits (then_go (return_passed where_weaker) c.in_ok-cond.ensures.fits return_fits)))))

pub list-requires-clause-part : goal.list-requires-clause-part
list-requires-clause-part c = set_part
