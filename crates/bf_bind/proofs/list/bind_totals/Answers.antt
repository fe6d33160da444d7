use Rattle.bf_sql.specs.Scopes.{total_objections}
use Rattle.bf_bind.proofs.Walks.{pass_stops}
use Rattle.bf_bind.proofs.list.bind_totals.Goals as goal

pub returns-in_err-bind_total : goal.returns-in_err-bind_total
returns-in_err-bind_total c =
    pass_stops (total_objections c.args.scope.now) c.args.totals.now c.loop-total.total-index c.loop-total.invariant.unobjected c.total-item.result c.loop-total-test.true c.total-item.is
    _ c.in_err-bind_total.field-0.0 _ _ c.from_residual-in_err-bind_total.ensures.1 c.in_err-bind_total.ensures
