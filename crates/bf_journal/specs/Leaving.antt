-- What may be left of a log by a crash, and how a call changes that.
use Rattle.std.specs.Prelude.{◌≡◌, ◌⊎◌, ℕ, ◌≤◌, List, Option, Some}
use Rattle.bf_disk.specs.declared.disk.Disk.{Ghosts}
use Rattle.bf_log.specs.declared.log.Log.{Log}
use Rattle.bf_journal.specs.States.{IsReady, LastMade, MayLeave, moment_of}

module _ {L : Type 0} (first : L) (Steps : L → List ℕ → L → Type 0) {D : Type 0} {g : Ghosts D} where
  -- What may be left since a moment once a call is over could be left since then before it, or may be left since the
  -- call's begin.
  pub record LeavesNoOther (old new : Log D g) : Type 0 where
    pub later : moment_of old ≤ moment_of new
    pub nothing_else : (t : ℕ) (left : Option L) → MayLeave first Steps new t left
        → MayLeave first Steps old t left ⊎ MayLeave first Steps new (moment_of old) left

  -- a call adds nothing to what may be left since any moment up to its begin
  abbrev pub AddsNothing : Log D g → Log D g → Type 0
  AddsNothing old new =
      (t : ℕ) (left : Option L) → t ≤ moment_of old → MayLeave first Steps new t left → MayLeave first Steps old t left

  -- since the call's begin one of two states may be left, and nothing else
  abbrev pub LeavesEither : L → L → Log D g → Log D g → Type 0
  LeavesEither state next old new =
      (left : Option L) → MayLeave first Steps new (moment_of old) left → (left ≡ Some state) ⊎ (left ≡ Some next)

  -- a crash from now on leaves this state alone
  abbrev pub LeavesAlone : L → Log D g → Type 0
  LeavesAlone state now = (left : Option L) → MayLeave first Steps now (moment_of now) left → left ≡ Some state

  -- a call has stored the change that makes the next state of a state
  pub record Stores (state next : L) (old new : Log D g) : Type 0 where
    pub was_ready : IsReady old
    pub ready : IsReady new
    pub no_other : LeavesNoOther old new
    pub either : LeavesEither state next old new
    pub alone : LeavesAlone next new
    pub last : (file : List ℕ) → g.seen new.disk ≡ Some file → LastMade first Steps state next new

  -- a call has failed while it stored that change, and the log has stopped
  pub record Fails (state next : L) (old new : Log D g) : Type 0 where
    pub was_ready : IsReady old
    pub stopped : ¬ IsReady new
    pub no_other : LeavesNoOther old new
    pub either : LeavesEither state next old new

  -- A call has stored nothing: it was refused, or the log had stopped before, or there was nothing to store.
  pub record StoresNothing (old new : Log D g) : Type 0 where
    pub as_ready : IsReady new → IsReady old
    pub no_other : LeavesNoOther old new
    pub adds_nothing : AddsNothing old new
