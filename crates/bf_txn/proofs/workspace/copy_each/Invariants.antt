use Rattle.std.proofs.Common.{◌≡◌, ◌++◌, map}
use Rattle.std.specs.Map.Iter.{deref_pair}
use Rattle.bf_txn.specs.Writes.{writes_in}
use Rattle.bf_txn.proofs.workspace.copy_each.Given as goal

-- the writes so far are copied
abbrev pub invariant-loop-key : goal.invariant-loop-key
invariant-loop-key l = record {
  left : map deref_pair l.yielded ++ l.key-iterator ≡ l.writes;
  copied : l.copies.items ≡ l.fn.copies.items ++ writes_in l.table (map deref_pair l.yielded);
}
