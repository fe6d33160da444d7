use Rattle.std.proofs.Common.{◌≡◌, ◌≤◌, ◌+◌, ◌++◌, fold}
use Rattle.bf_live.specs.Merged.{applied_to}
use Rattle.bf_live.specs.Commits.{key_puts}
use Rattle.bf_live.proofs.commit.change_all.Given as goal

-- the writes so far are made, and there is room for those that are left
abbrev pub invariant-loop-key : goal.invariant-loop-key
invariant-loop-key l = record {
  left : l.yielded ++ l.key-iterator ≡ l.fn.writes;
  made : l.heap.entries ≡ fold applied_to l.fn.heap.entries l.yielded;
  room : key_puts l.key-iterator ≤ l.heap.spare;
  spare : l.fn.heap.spare + key_puts l.key-iterator ≤ l.heap.spare + key_puts l.fn.writes;
}
