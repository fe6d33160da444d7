use Rattle.std.proofs.Common.{◌≡◌, ◌++◌}
use Rattle.std.specs.Vec.Iter.{into_iter_items}
use Rattle.bf_eager.proofs.gathering.add_part.Given as goal

-- the rows so far, and those that are left
abbrev pub invariant-loop-row : goal.invariant-loop-row
invariant-loop-row l = l.rows.items ++ into_iter_items l.row-iterator ≡ l.fn.rows.items ++ into_iter_items l.initial.row-iterator
