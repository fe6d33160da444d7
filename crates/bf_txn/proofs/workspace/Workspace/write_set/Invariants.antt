use Rattle.std.proofs.Common.{◌≡◌, ◌++◌, map}
use Rattle.std.specs.Map.Iter.{deref_pair}
use Rattle.bf_txn.specs.Writes.{all_writes}
use Rattle.bf_txn.proofs.workspace.Workspace.write_set.Given as goal

-- the writes to the tables so far are copied
abbrev pub invariant-loop-table : goal.invariant-loop-table
invariant-loop-table l = record {
  left : all_writes (map deref_pair l.yielded ++ l.table-iterator) ≡ l.self;
  copied : l.copies.items ≡ all_writes (map deref_pair l.yielded);
}
