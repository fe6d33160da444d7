use Rattle.std.proofs.Common.{◌≡◌, ◌+◌, ◌≤◌, ◌++◌, fold, length, vec_capacity, vec_len}
use Rattle.bf_txn.specs.Formers.{undone}
use Rattle.bf_txn.specs.Writes.{with_key_write}
use Rattle.bf_txn.proofs.putting.put_each.Given as goal

-- the rows so far are put and can be taken back, and there is room to keep what stood at the keys that are left
abbrev pub invariant-loop-key : goal.invariant-loop-key
invariant-loop-key l = record {
  left : l.yielded ++ l.key-iterator ≡ l.fn.more.entries;
  put : l.rows.entries ≡ fold with_key_write l.fn.rows.entries l.yielded;
  undoable : undone l.formers.items l.rows.entries ≡ l.fn.rows.entries;
  room : vec_len l.formers + length l.key-iterator ≤ vec_capacity l.formers;
}
