use Rattle.bf_bind.proofs.Walks.{pass_stops}
use Rattle.bf_plan.specs.Targets.{failing_in}
use Rattle.bf_plan.proofs.target.expect_all_sure.Goals as goal

pub returns-in_err-expect_sure : goal.returns-in_err-expect_sure
returns-in_err-expect_sure c =
    pass_stops (failing_in c.args.target.now) c.args.arms.now c.loop-arm.arm-index c.loop-arm.invariant c.arm-item.result c.loop-arm-test.true c.arm-item.is
    _ c.in_err-expect_sure.field-0.0 _ _ c.from_residual.ensures.1 (rw c.as_slice.ensures at c.in_err-expect_sure.ensures)
