use Rattle.bf_bind.proofs.Walks.{walk_stops}
use Rattle.bf_plan.specs.Targets.{name_objections}
use Rattle.bf_plan.proofs.target.expect_names.Goals as goal

pub returns-in_err-expect_new_name : goal.returns-in_err-expect_new_name
returns-in_err-expect_new_name c =
    walk_stops (λ p. name_objections p.0 p.1) c.args.items.now c.loop-index.index c.loop-index.invariant c.index-items-index.result c.loop-index-test.true c.index-items-index.is
    _ c.in_err-expect_new_name.field-0.0 _ _ c.from_residual.ensures.1 c.in_err-expect_new_name.ensures
