use Rattle.bf_sql.specs.migrations.MigrationObjections.{item_objections}
use Rattle.bf_bind.proofs.Walks.{pass_stops}
use Rattle.bf_plan.proofs.item.bind_items.Goals as goal

pub returns-in_err-judgement : goal.returns-in_err-judgement
returns-in_err-judgement c =
    pass_stops (item_objections c.args.scope.now) c.args.items.now c.loop-item.item-index c.loop-item.invariant.unobjected c.item-item.result c.loop-item-test.true c.item-item.is
    _ c.in_err-judgement.field-0.0 _ _ c.from_residual-in_err-judgement.ensures.1 c.in_err-judgement.ensures
