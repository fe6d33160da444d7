use Rattle.std.proofs.Common.{length}
use Rattle.std.proofs.lemmas.Bool.{leb-true}
use Rattle.bf_base.specs.Limits.{most_columns}
use Rattle.bf_tree.specs.Limits.{has_few_items}
use Rattle.bf_sql.specs.Bound.{without_rows}
use Rattle.bf_sql.specs.migrations.MigrationObjections.{arm_objections}
use Rattle.bf_bind.proofs.Walks.{pass_stops}
use Rattle.bf_plan.specs.Arms.{bound_arm}
use Rattle.bf_plan.proofs.Walked.{all_at, made_of_more, passes}
use Rattle.bf_plan.proofs.arm.bind_arms.Goals as goal

pub bind_arm-requires-clause-few : goal.bind_arm-requires-clause-few
bind_arm-requires-clause-few c =
    let same = c.as_slice-arms.ensures in
    leb-true (length c.arm-item.result.items) most_columns
    (all_at has_few_items c.args.target.now.arms c.loop-arm.arm-index c.arm-item.result c.requires.few (rw same at c.loop-arm-test.true) (rw same at c.arm-item.is))

pub returns-in_err-bind_arm : goal.returns-in_err-bind_arm
returns-in_err-bind_arm c =
    let same = c.as_slice-arms.ensures in
    pass_stops (arm_objections (without_rows c.args.catalog.now) c.args.target.now) c.args.target.now.arms c.loop-arm.arm-index c.loop-arm.invariant.unobjected c.arm-item.result (rw same at c.loop-arm-test.true) (rw same at c.arm-item.is)
    _ c.in_err-bind_arm.field-0.0 _ _ c.from_residual-in_err-bind_arm.ensures.1 c.in_err-bind_arm.ensures

pub loop-arm-preserved : goal.loop-arm-preserved
loop-arm-preserved c =
    let same = c.as_slice-arms.ensures in
    let in_range = rw same at c.loop-arm-test.true in
    let is = rw same at c.arm-item.is in
    record {
      unobjected = passes (arm_objections (without_rows c.args.catalog.now) c.args.target.now) c.args.target.now.arms c.loop-arm.arm-index c.arm-item.result in_range is c.in_ok-bind_arm.ensures.0 _ c.loop-arm.invariant.unobjected;
      value =
          made_of_more (bound_arm (without_rows c.args.catalog.now)) c.args.target.now.arms c.loop-arm.arm-index c.arm-item.result in_range is
          c.loop-arm.bound.items c.push.new.self.items c.in_ok-bind_arm.field-0 c.loop-arm.invariant.value c.in_ok-push.ensures.items c.in_ok-bind_arm.ensures.1;
    }
