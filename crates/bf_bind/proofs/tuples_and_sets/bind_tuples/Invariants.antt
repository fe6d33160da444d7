use Rattle.std.proofs.Common.{◌≡◌}
use Rattle.std.specs.List.{flat_map}
use Rattle.bf_sql.specs.Objections.{tuple_objections}
use Rattle.bf_bind.proofs.Walks.{left_from}
use Rattle.bf_bind.proofs.tuples_and_sets.bind_tuples.Given as goal

abbrev pub invariant-loop-tuple : goal.invariant-loop-tuple
invariant-loop-tuple l =
    flat_map (tuple_objections l.table) l.tuples ≡ left_from (tuple_objections l.table) l.tuples l.tuple-index
