use Rattle.bf_phrase.proofs.Moves.{after_can, after_go, after_stop, exit, named_can, named_go, named_stop, return_can, return_fits, return_passed, then_can, then_go, then_stop}
use Rattle.bf_parse.proofs.Forms.{tuples_can}
use Rattle.bf_parse.proofs.statement.insert.Goals as goal

pub returns-in_err-rest-clause-fits : goal.returns-in_err-rest-clause-fits
returns-in_err-rest-clause-fits c = exit _ c.from_residual.result _ c.from_residual.ensures.1 (after_stop c.in_err-rest.ensures.found (after_can (named_can (λ n. after_can (then_can tuples_can (λ a. return_can))))))

pub returns-in_err-rest-2-clause-fits : goal.returns-in_err-rest-2-clause-fits
returns-in_err-rest-2-clause-fits c = exit _ c.from_residual-in_err-rest-2.result _ c.from_residual-in_err-rest-2.ensures.1 (after_go c.in_ok-rest.ensures.found (after_stop c.in_err-rest-2.ensures.found (named_can (λ n. after_can (then_can tuples_can (λ a. return_can))))))

pub returns-in_err-table-clause-fits : goal.returns-in_err-table-clause-fits
returns-in_err-table-clause-fits c = exit _ c.from_residual-in_err-table.result _ c.from_residual-in_err-table.ensures.1 (after_go c.in_ok-rest.ensures.found (after_go c.in_ok-rest-2.ensures.found (named_stop c.in_err-table.ensures.found (λ n. after_can (then_can tuples_can (λ a. return_can))))))

pub returns-in_err-rest-3-clause-fits : goal.returns-in_err-rest-3-clause-fits
returns-in_err-rest-3-clause-fits c = exit _ c.from_residual-in_err-rest-3.result _ c.from_residual-in_err-rest-3.ensures.1 (after_go c.in_ok-rest.ensures.found (after_go c.in_ok-rest-2.ensures.found (named_go c.in_ok-table.ensures.found (after_stop c.in_err-rest-3.ensures.found (then_can tuples_can (λ a. return_can))))))

pub returns-in_err-tuples-clause-fits : goal.returns-in_err-tuples-clause-fits
returns-in_err-tuples-clause-fits c = exit _ c.from_residual-in_err-tuples.result _ c.from_residual-in_err-tuples.ensures.1 (after_go c.in_ok-rest.ensures.found (after_go c.in_ok-rest-2.ensures.found (named_go c.in_ok-table.ensures.found (after_go c.in_ok-rest-3.ensures.found (then_stop _ (return_passed (λ t p. p)) (λ a. return_can) c.in_err-tuples.ensures.fits)))))

pub returns-clause-fits : goal.returns-clause-fits
returns-clause-fits c = rw c.of-tuples.ensures (after_go c.in_ok-rest.ensures.found (after_go c.in_ok-rest-2.ensures.found (named_go c.in_ok-table.ensures.found (after_go c.in_ok-rest-3.ensures.found (then_go (return_passed (λ t p. p)) c.in_ok-tuples.ensures.fits return_fits)))))
