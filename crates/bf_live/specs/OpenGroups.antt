-- OPEN GROUPS: what a group has replied and written stays right while others commit what they hold in X.
use Rattle.std.specs.Prelude.{◌≡◌, ◌≢◌, ◌⊎◌, ℕ, Bool, List, [], ◌∷◌, ◌++◌, Some, IsTrue, IsSomeAnd}
use Rattle.std.specs.List.{All}
use Rattle.bf_locks.specs.declared.answer.LockAnswer.{LockAnswer}
use Rattle.bf_locks.specs.declared.mode.Mode.{Mode}
use Rattle.bf_locks.specs.declared.mode.Mode.TheVariants.{IX, S, X}
use Rattle.bf_locks.specs.declared.name.LockName.{LockName}
use Rattle.bf_locks.specs.declared.name.LockName.TheVariants.{Catalog, Whole, One}
use Rattle.bf_locks.specs.Locks.{Locks, after as locks_after, held, IsConsistent, without_owner}
use Rattle.bf_locks.specs.Modes.{covers}
use Rattle.bf_tree.specs.declared.bound.Bound.{Bound}
use Rattle.bf_tree.specs.declared.reply.Reply.{Reply}
use Rattle.bf_tree.specs.declared.statement.Statement.{Statement}
use Rattle.bf_sql.specs.Bound.{bound_of}
use Rattle.bf_sql.specs.Database.{Database, IsDatabase}
use Rattle.bf_live.specs.Live.{committed}
use Rattle.bf_txn.specs.declared.write.Write.{Write}
use Rattle.bf_live.specs.Open.{IsOpen, IsStep}
use Rattle.bf_sql.specs.Footprints.{Lock, footprint_of}
use Rattle.bf_sql.specs.Agreement.{AgreeOn}

-- an owner holds a name in a mode that covers one
abbrev pub HoldsIn : Locks → ℕ → LockName → Mode → Type 0
HoldsIn locks owner name mode = IsSomeAnd (held locks name owner) (λ mine. IsTrue (covers mine mode))

-- an owner holds a footprint
abbrev pub Holds : Locks → ℕ → List Lock → Type 0
Holds locks owner footprint = All (λ lock. HoldsIn locks owner lock.0 lock.1) footprint

-- an owner holds in X what a write changes, and what stands above it
pub record MayWrite (locks : Locks) (owner : ℕ) (write : Write) : Type 0 where
  pub catalog : HoldsIn locks owner Catalog S
  pub place : HoldsIn locks owner (Whole write.table) X ⊎ (HoldsIn locks owner (Whole write.table) IX × HoldsIn locks owner (One write.table write.key) X)

-- a statement that a group has answered, in its block or not
pub record Answered : Type 0 where
  pub in_block : Bool
  pub statement : Statement
  pub reply : Reply

-- a group's answered statements replayed on a database, from some writes to others: each a step, whose footprint the
-- owner holds
abbrev pub Replays : Locks → ℕ → Database → List Write → List Answered → List Write → Type 0
Replays locks owner db before [] after = before ≡ after
Replays locks owner db before (a ∷ more) after =
    (bound : Bound) × (next : List Write)
    × (bound_of (committed db before) a.in_block a.statement ≡ Some bound)
    × Holds locks owner (footprint_of bound)
    × IsStep db before next a.in_block a.statement a.reply
    × Replays locks owner db next more after

-- a group's next step is added
abbrev pub AStepIsAdded : Type 0
AStepIsAdded = (locks : Locks) (owner : ℕ) (db : Database) (before now after : List Write) (told : List Answered) (next : Answered) (bound : Bound) → Replays locks owner db before told now
    → bound_of (committed db now) next.in_block next.statement ≡ Some bound → Holds locks owner (footprint_of bound) → IsStep db now after next.in_block next.statement next.reply → Replays locks owner db before (told ++ next ∷ []) after

-- and all stays where an owner holds what it held, as after each answer of a lock table but its own freeing
abbrev pub ReplaysUnderMoreLocks : Type 0
ReplaysUnderMoreLocks = (locks more : Locks) (owner : ℕ) (db : Database) (before after : List Write) (told : List Answered)
    → ((name : LockName) (mode : Mode) → HoldsIn locks owner name mode → HoldsIn more owner name mode) → Replays locks owner db before told after → Replays more owner db before told after

-- an agreement is kept by what a transaction has written over both
abbrev pub OwnWritesKeepAgreement : Type 0
OwnWritesKeepAgreement = (a b : Database) (writes : List Write) (bound : Bound) → IsDatabase a → IsDatabase b → IsOpen a writes → IsOpen b writes
    → AgreeOn a b (footprint_of bound) → AgreeOn (committed a writes) (committed b writes) (footprint_of bound)

-- and a commit of what another owner holds in X makes one
abbrev pub CommitKeepsAgreement : Type 0
CommitKeepsAgreement = (locks : Locks) (owner other : ℕ) (db : Database) (writes : List Write) (bound : Bound) → IsConsistent locks → owner ≢ other → IsDatabase db → IsOpen db writes
    → All (MayWrite locks other) writes → Holds locks owner (footprint_of bound) → AgreeOn db (committed db writes) (footprint_of bound)

-- a step on one database is a step on each that agrees on its footprint
abbrev pub AStepStays : Type 0
AStepStays = (a b : Database) (before after : List Write) (in_block : Bool) (s : Statement) (bound : Bound) (answer : Reply) → IsDatabase a → IsDatabase b → IsOpen a before → IsOpen b before
    → bound_of (committed a before) in_block s ≡ Some bound → AgreeOn a b (footprint_of bound) → IsStep a before after in_block s answer → IsStep b before after in_block s answer

-- so an open group's replies and writes stay those of its statements while another commits
abbrev pub AnOpenGroupStays : Type 0
AnOpenGroupStays = (locks : Locks) (owner other : ℕ) (db : Database) (writes : List Write) → IsConsistent locks → owner ≢ other → IsDatabase db → IsOpen db writes → All (MayWrite locks other) writes
    → (told : List Answered) (after : List Write) → Replays locks owner db [] told after → Replays locks owner (committed db writes) [] told after

-- a group may write what it has written
abbrev pub AGroupMayWriteItsWrites : Type 0
AGroupMayWriteItsWrites = (locks : Locks) (owner : ℕ) (db : Database) (told : List Answered) (after : List Write) → IsDatabase db → Replays locks owner db [] told after → All (MayWrite locks owner) after

-- and while one owner holds the catalog in X, any change of the database leaves each other group right
abbrev pub ASchemaChangeLeavesOthers : Type 0
ASchemaChangeLeavesOthers = (locks : Locks) (owner other : ℕ) (a b : Database) → IsConsistent locks → owner ≢ other → HoldsIn locks other Catalog X → IsDatabase a → IsDatabase b
    → (told : List Answered) (after : List Write) → Replays locks owner a [] told after → Replays locks owner b [] told after

-- beside a schema change that is pending nothing is committed
abbrev pub APendingSchemaChangeStays : Type 0
APendingSchemaChangeStays = (locks : Locks) (owner other : ℕ) (db : Database) (writes : List Write) → IsConsistent locks → owner ≢ other → HoldsIn locks owner Catalog X → All (MayWrite locks other) writes → committed db writes ≡ db

-- what an owner holds it holds still after each answer to any owner
abbrev pub AnAnswerKeepsLocks : Type 0
AnAnswerKeepsLocks = (locks : Locks) (asking owner : ℕ) (name at : LockName) (asked mode : Mode) (answer : LockAnswer) → HoldsIn locks owner at mode → HoldsIn (locks_after locks asking name asked answer) owner at mode

-- and after another has freed what it held
abbrev pub FreeingKeepsOthers : Type 0
FreeingKeepsOthers = (locks : Locks) (freed owner : ℕ) (at : LockName) (mode : Mode) → owner ≢ freed → HoldsIn locks owner at mode → HoldsIn (without_owner locks freed) owner at mode
