use Rattle.std.proofs.Common.{◌≡◌}
use Rattle.std.specs.List.{list_any}
use Rattle.bf_store.specs.Told.{is_told_in}
use Rattle.bf_store.proofs.told.tells_in.Given as goal

-- the writes so far are not told
abbrev pub invariant-loop-key : goal.invariant-loop-key
invariant-loop-key l = list_any (is_told_in l.heap.entries) l.key-iterator ≡ list_any (is_told_in l.heap.entries) l.writes
