use Rattle.bf_sql.specs.Bound.{without_rows}
use Rattle.bf_bind.proofs.Walks.{walk_stops}
use Rattle.bf_plan.specs.Units.{taken_objections}
use Rattle.bf_plan.proofs.units.expect_all_free.Goals as goal

pub returns-in_err-expect_free : goal.returns-in_err-expect_free
returns-in_err-expect_free c =
    walk_stops (λ p. taken_objections (without_rows c.args.catalog.now) c.args.sources.now p.0 p.1.name) c.args.targets.now c.loop-index.index c.loop-index.invariant c.index-targets-index.result c.loop-index-test.true c.index-targets-index.is
    _ c.in_err-expect_free.field-0.0 _ _ c.from_residual.ensures.1 c.in_err-expect_free.ensures
