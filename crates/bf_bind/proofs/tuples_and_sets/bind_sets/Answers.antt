use Rattle.bf_bind.specs.Parts.{set_objections_of}
use Rattle.bf_bind.proofs.Walks.{walk_stops}
use Rattle.bf_bind.proofs.tuples_and_sets.bind_sets.Goals as goal

pub returns-in_err-bind_set : goal.returns-in_err-bind_set
returns-in_err-bind_set c =
    walk_stops (λ p. set_objections_of c.args.table.now p.0 p.1) c.args.sets.now c.loop-index.index c.loop-index.invariant.unobjected c.index-sets-index.result c.loop-index-test.true c.index-sets-index.is
    _ c.in_err-bind_set.field-0.0 _ _ c.from_residual-in_err-bind_set.ensures.1 c.in_err-bind_set.ensures
