use Rattle.std.proofs.Common.{refl}
use Rattle.bf_parse.proofs.ArmParts.{clauses_can, end_read, end_stop, items_can, not_read}
use Rattle.bf_phrase.proofs.Items.{item_part}
use Rattle.bf_phrase.proofs.Moves.{after_can, after_go, after_passed, after_stop, exit, named_can, named_go, named_stop, then_can, then_go, then_stop}
use Rattle.bf_parse.proofs.arm.arm.Goals as goal

pub list-requires-clause-part : goal.list-requires-clause-part
list-requires-clause-part c = item_part

pub returns-in_err-rest-clause-fits : goal.returns-in_err-rest-clause-fits
returns-in_err-rest-clause-fits c =
    exit _ c.from_residual.result _ c.from_residual.ensures.1
    (after_stop c.in_err-rest.ensures.found (then_can items_can (λ items. after_can (named_can (λ from. clauses_can)))))

pub returns-in_err-rest-clause-place : goal.returns-in_err-rest-clause-place
returns-in_err-rest-clause-place c = not_read _ c.from_residual.result c.from_residual.ensures.0

pub returns-in_err-rest-clause-shorter : goal.returns-in_err-rest-clause-shorter
returns-in_err-rest-clause-shorter c = not_read _ c.from_residual.result c.from_residual.ensures.0

pub returns-in_err-items-clause-fits : goal.returns-in_err-items-clause-fits
returns-in_err-items-clause-fits c =
    exit _ c.from_residual-in_err-items.result _ c.from_residual-in_err-items.ensures.1
    (after_go c.in_ok-rest.ensures.found (then_stop _ (after_passed refl) (λ items. after_can (named_can (λ from. clauses_can))) c.in_err-items.ensures.fits))

pub returns-in_err-items-clause-place : goal.returns-in_err-items-clause-place
returns-in_err-items-clause-place c = not_read _ c.from_residual-in_err-items.result c.from_residual-in_err-items.ensures.0

pub returns-in_err-items-clause-shorter : goal.returns-in_err-items-clause-shorter
returns-in_err-items-clause-shorter c = not_read _ c.from_residual-in_err-items.result c.from_residual-in_err-items.ensures.0

pub returns-in_err-rest-2-clause-fits : goal.returns-in_err-rest-2-clause-fits
returns-in_err-rest-2-clause-fits c =
    exit _ c.from_residual-in_err-rest-2.result _ c.from_residual-in_err-rest-2.ensures.1
    (after_go c.in_ok-rest.ensures.found (then_go (after_passed refl) c.in_ok-items.ensures.fits (after_stop c.in_err-rest-2.ensures.found (named_can (λ from. clauses_can)))))

pub returns-in_err-rest-2-clause-place : goal.returns-in_err-rest-2-clause-place
returns-in_err-rest-2-clause-place c = not_read _ c.from_residual-in_err-rest-2.result c.from_residual-in_err-rest-2.ensures.0

pub returns-in_err-rest-2-clause-shorter : goal.returns-in_err-rest-2-clause-shorter
returns-in_err-rest-2-clause-shorter c = not_read _ c.from_residual-in_err-rest-2.result c.from_residual-in_err-rest-2.ensures.0

pub returns-in_err-from-clause-fits : goal.returns-in_err-from-clause-fits
returns-in_err-from-clause-fits c =
    exit _ c.from_residual-in_err-from.result _ c.from_residual-in_err-from.ensures.1
    (after_go c.in_ok-rest.ensures.found (then_go (after_passed refl) c.in_ok-items.ensures.fits (after_go c.in_ok-rest-2.ensures.found (named_stop c.in_err-from.ensures.found (λ from. clauses_can)))))

pub returns-in_err-from-clause-place : goal.returns-in_err-from-clause-place
returns-in_err-from-clause-place c = not_read _ c.from_residual-in_err-from.result c.from_residual-in_err-from.ensures.0

pub returns-in_err-from-clause-shorter : goal.returns-in_err-from-clause-shorter
returns-in_err-from-clause-shorter c = not_read _ c.from_residual-in_err-from.result c.from_residual-in_err-from.ensures.0

pub returns-in_err-join-clause-fits : goal.returns-in_err-join-clause-fits
returns-in_err-join-clause-fits c =
    exit _ c.from_residual-in_err-join.result _ c.from_residual-in_err-join.ensures.1
    (after_go c.in_ok-rest.ensures.found (then_go (after_passed refl) c.in_ok-items.ensures.fits (after_go c.in_ok-rest-2.ensures.found (named_go c.in_ok-from.ensures.found (end_stop _ _ _ c.in_err-join.ensures.fits)))))

pub returns-in_err-join-clause-place : goal.returns-in_err-join-clause-place
returns-in_err-join-clause-place c = not_read _ c.from_residual-in_err-join.result c.from_residual-in_err-join.ensures.0

pub returns-in_err-join-clause-shorter : goal.returns-in_err-join-clause-shorter
returns-in_err-join-clause-shorter c = not_read _ c.from_residual-in_err-join.result c.from_residual-in_err-join.ensures.0

pub returns-clause-fits : goal.returns-clause-fits
returns-clause-fits c = rw (c.of-items.ensures, c.of-group.ensures) (after_go c.in_ok-rest.ensures.found (then_go (after_passed refl) c.in_ok-items.ensures.fits (after_go c.in_ok-rest-2.ensures.found (named_go c.in_ok-from.ensures.found (end_read _ _ c.in_ok-join.ensures.fits)))))
