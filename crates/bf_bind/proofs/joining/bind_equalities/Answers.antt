use Rattle.bf_bind.proofs.Walks.{pass_stops}
use Rattle.bf_bind.specs.ArmTables.{equality_objections}
use Rattle.bf_bind.proofs.joining.bind_equalities.Goals as goal

pub returns-in_err-bind_equality : goal.returns-in_err-bind_equality
returns-in_err-bind_equality c =
    pass_stops (equality_objections c.args.scope.now c.args.width c.args.target.now) c.args.pairs.now c.loop-pair.pair-index c.loop-pair.invariant.unobjected c.pair-item.result c.loop-pair-test.true c.pair-item.is
    _ c.in_err-bind_equality.field-0.0 _ _ c.from_residual-in_err-bind_equality.ensures.1 c.in_err-bind_equality.ensures
