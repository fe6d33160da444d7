-- What a reader of trees answers that may read so many nodes.
use Rattle.std.specs.Prelude.{◌≡◌, ℕ, ◌+◌, ◌≤◌, List, Option, Some, None}
use Rattle.bf_wire.specs.Taking.{BeginWith, IsTakenFrom}

-- the most nodes of an expression or a condition
abbrev pub most_nodes : ℕ
most_nodes = 256

-- has a spelling, and so many nodes at most
abbrev pub IsWithin : {A : Type 0} → (A → Type 0) → (A → ℕ) → ℕ → A → Type 0
IsWithin HasSpelling size budget a = HasSpelling a × (size a ≤ budget)

module _ {A : Type 0} (HasSpelling : A → Type 0) (spelling : A → List ℕ) (size : A → ℕ) where
  -- the tree within the budget whose spelling is a front of the bytes, its length, and how many nodes are left; nothing, where no front is one's
  abbrev pub IsTakenWithin : ℕ → List ℕ → Option (A × ℕ × ℕ) → Type 0
  IsTakenWithin budget bytes (Some found) = BeginWith (IsWithin HasSpelling size budget) spelling bytes found.0 found.1 × (found.2 + size found.0 ≡ budget)
  IsTakenWithin budget bytes None = IsTakenFrom (IsWithin HasSpelling size budget) spelling bytes None
