-- Waits of owners for each other, and that they form no cycle.
use Rattle.std.specs.Prelude.{ℕ, List, [], ◌∷◌, All, Contains}
use Rattle.bf_locks.specs.declared.mode.Mode.{Mode}
use Rattle.bf_locks.specs.declared.name.LockName.{LockName}
use Rattle.bf_locks.specs.Locks.{Locks, Waits}

-- some request of the first owner, in some state of a table, was answered by a wait that names the second
pub record WaitsFor (waiting named : ℕ) : Type 0 where
  pub locks : Locks
  pub name : LockName
  pub mode : Mode
  pub others : List ℕ
  pub answer : Waits locks waiting name mode others
  pub among : Contains others named

-- a graph: its edges, each from an owner that waits to one that it waits for
abbrev pub Graph : Type 0
Graph = List (ℕ × ℕ)

-- each edge was made by an answer
abbrev pub IsMadeByAnswers : Graph → Type 0
IsMadeByAnswers graph = All (λ edge. WaitsFor edge.0 edge.1) graph

-- edges lead from one owner by way of some owners to another
abbrev pub Leads : Graph → ℕ → List ℕ → ℕ → Type 0
Leads graph from [] to = Contains graph (from, to)
Leads graph from (next ∷ rest) to = Contains graph (from, next) × Leads graph next rest to

-- edges lead from an owner back to it
abbrev pub HasCycle : Graph → Type 0
HasCycle graph = (owner : ℕ) × (between : List ℕ) × Leads graph owner between owner
