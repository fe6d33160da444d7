-- A log that is read record by record into a state, and a state that was reopened.
use Rattle.std.specs.Prelude.{◌≡◌, ℕ, ◌-◌, ◌≤◌, Bool, true, false, List, Option, Some, Result, Ok, Err, ⊤}
use Rattle.bf_disk.specs.declared.disk.Disk.{Ghosts}
use Rattle.bf_disk.specs.Images.{Only}
use Rattle.bf_log.specs.declared.error.OpenError.{OpenError}
use Rattle.bf_log.specs.declared.error.OpenError.TheVariants.{NotALog, DiskFault, Memory}
use Rattle.bf_log.specs.declared.log.Log.{Log}
use Rattle.bf_log.specs.declared.opening.Opening.{Opening}
use Rattle.bf_log.specs.Opening.{HasRead, gate_of, len_of}
use Rattle.bf_journal.specs.Leaving.{LeavesAlone}
use Rattle.bf_journal.specs.Reopening.{After, ReopensTo, RefusedAt}
use Rattle.bf_journal.specs.States.{IsReady, MayLeave, StandsOn, moment_of}

-- how many bytes of a file stand from the gate on at which its reader stands
abbrev pub unread : {D : Type 0} {g : Ghosts D} → Opening D g → ℕ
unread opening = len_of opening - gate_of opening

module _ {L : Type 0} (first : L) (Steps : L → List ℕ → L → Type 0) {D : Type 0} {g : Ghosts D} where
  -- the records that were read of this file give this state
  abbrev pub StateRead : List ℕ → L → Opening D g → Type 0
  StateRead file state opening = (payloads : List (List ℕ)) × HasRead file payloads opening × (After Steps first payloads state)

  -- what one more answer says: the log goes on, or has ended, or stops here
  abbrev pub ReadsOne : List ℕ → L → Opening D g → Result Bool OpenError → Type 0
  ReadsOne file state opening (Ok true) = ReopensTo first Steps file (Some state) × StateRead file state opening
  ReadsOne file state opening (Ok false) = StateRead file state opening
  ReadsOne file state opening (Err (NotALog at)) = RefusedAt first Steps file at × Only file (g.may_leave opening.disk)
  ReadsOne file state opening (Err DiskFault) = ⊤
  ReadsOne file state opening (Err Memory) = ⊤

  -- what reading all of a file says
  abbrev pub ReadsAll : List ℕ → L → Opening D g → Result (Unit {0}) OpenError → Type 0
  ReadsAll file state opening (Ok done) = ReopensTo first Steps file (Some state) × StateRead file state opening
  ReadsAll file state opening (Err (NotALog at)) = RefusedAt first Steps file at × Only file (g.may_leave opening.disk)
  ReadsAll file state opening (Err DiskFault) = ⊤
  ReadsAll file state opening (Err Memory) = ⊤

  -- A state that was reopened from a disk, with its log: it is what the file reopens to, it stands on the log, which
  -- takes records, and a crash from now on leaves it alone; where nothing was pending on the file, this holds since the
  -- start.
  pub record IsReopened (disk : D) (state : L) (log : Log D g) : Type 0 where
    pub gives : (file : List ℕ) → g.seen disk ≡ Some file → ReopensTo first Steps file (Some state)
    pub stands : StandsOn first Steps state log
    pub ready : IsReady log
    pub later : g.moment disk ≤ moment_of log
    pub alone : LeavesAlone first Steps state log
    pub since_start : (file : List ℕ) → g.seen disk ≡ Some file → Only file (g.may_leave disk)
        → (left : Option L) → MayLeave first Steps log (g.moment disk) left → left ≡ Some state
