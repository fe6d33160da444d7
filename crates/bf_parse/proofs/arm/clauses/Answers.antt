use Rattle.bf_parse.proofs.ArmParts.{group_weaker, join_passed, not_read, where_passed}
use Rattle.bf_parse.proofs.MigrateShapes.{group_can}
use Rattle.bf_phrase.proofs.Phrases.{where_can}
use Rattle.bf_phrase.proofs.Moves.{exit, return_can, return_fits, return_passed, then_can, then_go, then_stop}
use Rattle.bf_parse.proofs.arm.clauses.Goals as goal

pub returns-in_err-join-clause-fits : goal.returns-in_err-join-clause-fits
returns-in_err-join-clause-fits c =
    exit _ c.from_residual.result _ c.from_residual.ensures.1
    (then_stop _ join_passed (λ join. then_can where_can (λ cond. then_can group_can (λ group. return_can))) c.in_err-join.ensures.fits)

pub returns-in_err-join-clause-place : goal.returns-in_err-join-clause-place
returns-in_err-join-clause-place c = not_read _ c.from_residual.result c.from_residual.ensures.0

pub returns-in_err-join-clause-shorter : goal.returns-in_err-join-clause-shorter
returns-in_err-join-clause-shorter c = not_read _ c.from_residual.result c.from_residual.ensures.0

pub returns-in_err-cond-clause-fits : goal.returns-in_err-cond-clause-fits
returns-in_err-cond-clause-fits c =
    exit _ c.from_residual-in_err-cond.result _ c.from_residual-in_err-cond.ensures.1
    (then_go join_passed c.in_ok-join.ensures.fits (then_stop _ where_passed (λ cond. then_can group_can (λ group. return_can)) c.in_err-cond.ensures.fits))

pub returns-in_err-cond-clause-place : goal.returns-in_err-cond-clause-place
returns-in_err-cond-clause-place c = not_read _ c.from_residual-in_err-cond.result c.from_residual-in_err-cond.ensures.0

pub returns-in_err-cond-clause-shorter : goal.returns-in_err-cond-clause-shorter
returns-in_err-cond-clause-shorter c = not_read _ c.from_residual-in_err-cond.result c.from_residual-in_err-cond.ensures.0

pub returns-in_err-group-clause-fits : goal.returns-in_err-group-clause-fits
returns-in_err-group-clause-fits c =
    exit _ c.from_residual-in_err-group.result _ c.from_residual-in_err-group.ensures.1
    (then_go join_passed c.in_ok-join.ensures.fits (then_go where_passed c.in_ok-cond.ensures.fits (then_stop _ (return_passed group_weaker) (λ group. return_can) c.in_err-group.ensures.fits)))

pub returns-in_err-group-clause-place : goal.returns-in_err-group-clause-place
returns-in_err-group-clause-place c = not_read _ c.from_residual-in_err-group.result c.from_residual-in_err-group.ensures.0

pub returns-in_err-group-clause-shorter : goal.returns-in_err-group-clause-shorter
returns-in_err-group-clause-shorter c = not_read _ c.from_residual-in_err-group.result c.from_residual-in_err-group.ensures.0

pub returns-clause-fits : goal.returns-clause-fits
returns-clause-fits c = then_go join_passed c.in_ok-join.ensures.fits (then_go where_passed c.in_ok-cond.ensures.fits (then_go (return_passed group_weaker) c.in_ok-group.ensures.fits (return_fits)))
