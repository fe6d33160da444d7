use Rattle.std.proofs.Common.{◌≡◌, ◌++◌}
use Rattle.bf_run.specs.Records.{told_in}
use Rattle.bf_run.proofs.changes.tell_writes.Given as goal

-- the writes so far are told
abbrev pub invariant-loop-key : goal.invariant-loop-key
invariant-loop-key l = l.told.items ++ told_in l.heap.entries l.table l.key-iterator ≡ l.fn.told.items ++ told_in l.heap.entries l.table l.writes
