use Rattle.std.proofs.Common.{ap, ◌∙◌}
use Rattle.bf_plan.specs.Targets.{with_admit}
use Rattle.bf_plan.proofs.Columns.{admits_more}
use Rattle.bf_plan.proofs.target.admits_at.Goals as goal

pub loop-arm-preserved : goal.loop-arm-preserved
loop-arm-preserved c =
    let there = rw c.as_slice.ensures at c.admit_at.ensures in
    admits_more c.args.arms.now c.args.place c.loop-arm.arm-index c.arm-item.result c.loop-arm.so_far c.with_admit-more.result c.loop-arm-test.true c.arm-item.is c.loop-arm.invariant (c.with_admit-more.ensures ∙ ap (with_admit c.loop-arm.so_far) there)
