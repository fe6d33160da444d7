use Rattle.std.proofs.Common.{◌≡◌, ◌++◌, length}
use Rattle.bf_eager.proofs.Copying.{rows_of}
use Rattle.bf_eager.proofs.freezing.rows_in.Given as goal

-- the rows so far, and those that are left
abbrev pub invariant-loop-row : goal.invariant-loop-row
invariant-loop-row l = l.rows.items ++ rows_of l.ahead ≡ rows_of l.heap.entries

abbrev pub decreases-loop-row : goal.decreases-loop-row
decreases-loop-row l = length l.ahead
