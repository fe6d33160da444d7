-- How a lock table is kept: the holders of each name, and the names of each owner.
use Rattle.std.specs.Prelude.{ℕ, ◌≢◌, ◌↔◌, List, [], map, flat_map, IsSome, Contains}
use Rattle.std.specs.List.{AllPairs}
use Rattle.std.specs.Option.{option_map_or, unwrap_or}
use Rattle.std.specs.Global.{Vec}
use Rattle.std.specs.FinMap.{from_entries}
use Rattle.std.specs.BTreeMap as tree
use Rattle.std.specs.BTreeMap.{BTreeMap}
use Rattle.std.specs.Ordering.{nat_cmp}
use Rattle.bf_locks.specs.declared.mode.Mode.{Mode}
use Rattle.bf_locks.specs.declared.name.LockName.{LockName}
use Rattle.bf_locks.specs.LockNames.{lock_name_cmp}
use Rattle.bf_locks.specs.Locks.{Locks, held, IsConsistent}

-- the holders of each name that is held: owners, rising, and their modes
abbrev pub Holders : Type 0
Holders = BTreeMap LockName (List (ℕ × Mode))

-- the holders of a name, none where nobody holds it
abbrev pub owners_of : Holders → LockName → List (ℕ × Mode)
owners_of holders name = unwrap_or (tree.get lock_name_cmp holders name) []

-- what is held by holders
abbrev pub locks_of : Holders → Locks
locks_of holders = from_entries (flat_map (λ entry. map (λ holder. ((entry.0, holder.0), holder.1)) entry.1) holders.entries)

-- the names on an owner's list
abbrev pub names_of : BTreeMap ℕ (Vec LockName) → ℕ → List LockName
names_of owned owner = option_map_or (λ names. names.items) (tree.get nat_cmp owned owner) []

-- no name stands there twice
abbrev pub AreDifferent : List LockName → Type 0
AreDifferent names = AllPairs (λ one other. one ≢ other) names

-- the holders are in the names' order and conflict nowhere, and each owner's list has each name that it holds, once, and no others
pub record IsSound (holders : Holders) (owned : BTreeMap ℕ (Vec LockName)) : Type 0 where
  pub ordered : tree.IsOrdered lock_name_cmp holders
  pub consistent : IsConsistent (locks_of holders)
  pub listed : (owner : ℕ) (name : LockName) → Contains (names_of owned owner) name ↔ IsSome (held (locks_of holders) name owner)
  pub once : (owner : ℕ) → AreDifferent (names_of owned owner)
