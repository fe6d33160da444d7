use Rattle.std.proofs.Common.{◌≡◌, ◌++◌, take}
use Rattle.bf_bind.proofs.source.columns_of_both.Given as goal

abbrev pub invariant-loop-column : goal.invariant-loop-column
invariant-loop-column l = l.columns.items ≡ take l.column-index l.from

abbrev pub invariant-loop-other : goal.invariant-loop-other
invariant-loop-other l = l.columns.items ≡ l.from ++ take l.other-index l.join
