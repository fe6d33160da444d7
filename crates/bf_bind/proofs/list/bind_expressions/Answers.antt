use Rattle.bf_sql.specs.Scopes.{expr_objections}
use Rattle.bf_bind.proofs.Walks.{pass_stops}
use Rattle.bf_bind.proofs.list.bind_expressions.Goals as goal

pub returns-in_err-bind_expression : goal.returns-in_err-bind_expression
returns-in_err-bind_expression c =
    pass_stops (expr_objections c.args.scope.now) c.args.exprs.now c.loop-raw.raw-index c.loop-raw.invariant.unobjected c.raw-item.result c.loop-raw-test.true c.raw-item.is
    _ c.in_err-bind_expression.field-0.0 _ _ c.from_residual-in_err-bind_expression.ensures.1 c.in_err-bind_expression.ensures
