use Rattle.std.proofs.Common.{◌≡◌, ◌≢◌, ℕ, drop, IsSome, Contains}
use Rattle.std.specs.BTreeMap as tree
use Rattle.bf_locks.specs.declared.name.LockName.{LockName}
use Rattle.bf_locks.specs.LockNames.{lock_name_cmp}
use Rattle.bf_locks.specs.Locks.{held}
use Rattle.bf_locks.specs.Table.{locks_of}
use Rattle.bf_locks.proofs.holdings.free_each.Given as goal

-- the others hold what they held, and what the owner still holds is among the names that are left
abbrev pub invariant-loop-name : goal.invariant-loop-name
invariant-loop-name l = record {
  ordered : tree.IsOrdered lock_name_cmp l.holders;
  others : (name : LockName) (other : ℕ) → other ≢ l.owner → held (locks_of l.holders) name other ≡ held (locks_of l.initial.holders) name other;
  left : (name : LockName) → IsSome (held (locks_of l.holders) name l.owner) → Contains (drop l.name-index l.names) name;
}
