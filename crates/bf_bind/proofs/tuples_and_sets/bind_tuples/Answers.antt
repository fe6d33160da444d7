use Rattle.bf_sql.specs.Objections.{tuple_objections}
use Rattle.bf_bind.proofs.Walks.{pass_stops}
use Rattle.bf_bind.proofs.tuples_and_sets.bind_tuples.Goals as goal

pub returns-in_err-expect_tuple : goal.returns-in_err-expect_tuple
returns-in_err-expect_tuple c =
    let same = c.as_slice-tuple-items.ensures in
    pass_stops (tuple_objections c.args.table.now) c.args.tuples.now c.loop-tuple.tuple-index c.loop-tuple.invariant c.tuple-item.result (rw same at c.loop-tuple-test.true) (rw same at c.tuple-item.is)
    _ c.in_err-expect_tuple.field-0.0 _ _ c.from_residual.ensures.1 c.in_err-expect_tuple.ensures
