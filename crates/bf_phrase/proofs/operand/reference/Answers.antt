use Rattle.std.proofs.Common.{refl}
use Rattle.bf_phrase.proofs.Moves.{exit, named_go, named_stop, left_can, left_here, right_here, return_can, return_fits, return_not_here, after_not_here, behind_go}
use Rattle.bf_phrase.proofs.operand.reference.Goals as goal

pub returns-in_err-first-clause-fits : goal.returns-in_err-first-clause-fits
returns-in_err-first-clause-fits c = exit _ c.from_residual.result _ c.from_residual.ensures.1 (named_stop c.in_err-first.ensures.found (λ n. left_can return_can))

pub returns-in_err-second-in-Some-clause-fits : goal.returns-in_err-second-in-Some-clause-fits
returns-in_err-second-in-Some-clause-fits c =
    exit _ c.from_residual-in_err-second-in-Some.result _ c.from_residual-in_err-second-in-Some.ensures.1
    (named_go c.in_ok-first.ensures.found (right_here (return_not_here c.in-Some.ensures.found refl) (behind_go c.in-Some.ensures.found (named_stop c.in_err-second-in-Some.ensures.found (λ n. return_can)))))

pub returns-in-None-clause-fits : goal.returns-in-None-clause-fits
returns-in-None-clause-fits c = named_go c.in_ok-first.ensures.found (left_here (after_not_here c.in-None.ensures.found) return_fits)

pub returns-in_ok-second-in-Some-clause-fits : goal.returns-in_ok-second-in-Some-clause-fits
returns-in_ok-second-in-Some-clause-fits c =
    named_go c.in_ok-first.ensures.found (right_here (return_not_here c.in-Some.ensures.found refl) (behind_go c.in-Some.ensures.found (named_go c.in_ok-second-in-Some.ensures.found return_fits)))
