use Rattle.std.proofs.Common.{map, ap}
use Rattle.bf_base.specs.Limits.{longest_script}
use Rattle.bf_tree.specs.Limits.{has_small_arms}
use Rattle.bf_sql.specs.Bound.{without_rows}
use Rattle.bf_sql.specs.migrations.MigrationObjections.{target_objections}
use Rattle.bf_tree.specs.declared.migration.Target.{Target}
use Rattle.bf_sql.specs.migrations.Placed.{placed_arm}
use Rattle.bf_sql.specs.migrations.Targets.{target_table}
use Rattle.bf_bind.proofs.Walks.{pass_stops}
use Rattle.bf_plan.proofs.Planned.{few_arms, placed_more, units_more}
use Rattle.bf_plan.proofs.Walked.{all_at, made_of_more, passes}
use Rattle.bf_plan.specs.declared.target.BoundTarget.{BoundTarget}
use Rattle.bf_plan.proofs.planning.bind_targets.Goals as goal

pub bind_target-requires-clause-few : goal.bind_target-requires-clause-few
bind_target-requires-clause-few c =
    let same = c.as_slice-targets.ensures in
    all_at has_small_arms c.args.migrate.now.targets c.loop-index.index c.index-targets-index.result c.requires.limits.items (rw same at c.loop-index-test.true) (rw same at c.index-targets-index.is)

pub returns-in_err-bound : goal.returns-in_err-bound
returns-in_err-bound c =
    let same = c.as_slice-targets.ensures in
    pass_stops (target_objections (without_rows c.args.catalog.now)) c.args.migrate.now.targets c.loop-index.index c.loop-index.invariant.unobjected c.index-targets-index.result (rw same at c.loop-index-test.true) (rw same at c.index-targets-index.is)
    _ c.in_err-bound.field-0.0 _ _ c.from_residual-in_err-bound.ensures.1 c.in_err-bound.ensures

pub arm_units-requires : goal.arm_units-requires
arm_units-requires c =
    let same = c.as_slice-targets.ensures in
    rw c.as_slice.ensures
    (few_arms (without_rows c.args.catalog.now) c.args.migrate.now.targets c.loop-index.index c.index-targets-index.result (rw same at c.loop-index-test.true) (rw same at c.index-targets-index.is) c.in_ok-bound.bound c.in_ok-bound.ensures.1 longest_script c.requires.limits.arms)

pub loop-index-preserved : goal.loop-index-preserved
loop-index-preserved c =
    let same = c.as_slice-targets.ensures in
    let in_range = rw same at c.loop-index-test.true in
    let is = rw same at c.index-targets-index.is in
    record {
      unobjected = passes (target_objections (without_rows c.args.catalog.now)) c.args.migrate.now.targets c.loop-index.index c.index-targets-index.result in_range is c.in_ok-bound.ensures.0 _ c.loop-index.invariant.unobjected;
      tables =
          made_of_more (target_table (without_rows c.args.catalog.now)) c.args.migrate.now.targets c.loop-index.index c.index-targets-index.result in_range is
          c.loop-index.tables.items c.push.new.self.items c.in_ok-bound.bound.table c.loop-index.invariant.tables c.in_ok-push.ensures.items (ap (λ (b : BoundTarget). b.table) c.in_ok-bound.ensures.1);
      arms =
          made_of_more (λ (t : Target). map (placed_arm (without_rows c.args.catalog.now)) t.arms) c.args.migrate.now.targets c.loop-index.index c.index-targets-index.result in_range is
          c.loop-index.arms.items c.push-in-loop-index.new.self.items c.in_ok-placed.placed c.loop-index.invariant.arms c.in_ok-push-2.ensures.items
          (placed_more (without_rows c.args.catalog.now) c.args.migrate.now.targets c.loop-index.index c.index-targets-index.result in_range is c.in_ok-bound.bound c.in_ok-bound.ensures.1
          c.in_ok-placed.placed (rw c.as_slice-in-loop-index.ensures at c.in_ok-placed.ensures));
      units =
          units_more (without_rows c.args.catalog.now) c.args.migrate.now.targets c.loop-index.index c.index-targets-index.result in_range is c.in_ok-bound.bound c.in_ok-bound.ensures.1
          c.loop-index.units.items c.in_ok-more.more.items _ c.loop-index.invariant.units (rw c.as_slice.ensures at c.in_ok-more.ensures) c.in_ok-all.ensures;
    }
