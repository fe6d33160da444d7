-- A state that stands on a log, and what a crash may leave of the log.
use Rattle.std.specs.Prelude.{◌≡◌, ◌⊎◌, ℕ, List, [], ◌∷◌, ◌++◌, Option, Some}
use Rattle.bf_disk.specs.declared.disk.Disk.{Ghosts}
use Rattle.bf_log.specs.Append.{Holds, StoppedAt}
use Rattle.bf_log.specs.declared.log.Log.{Log}
use Rattle.bf_log.specs.declared.log.Standing.TheVariants.{Ready}
use Rattle.bf_journal.specs.Reopening.{After, ReopensTo}

module _ {D : Type 0} {g : Ghosts D} where
  -- the disk of a log tells its bytes
  abbrev pub IsTold : Log D g → Type 0
  IsTold log = (file : List ℕ) × (g.seen log.disk ≡ Some file)

  -- a log takes records: it is neither halted nor spent
  abbrev pub IsReady : Log D g → Type 0
  IsReady log = log.standing ≡ Ready

  -- the moment of its disk
  abbrev pub moment_of : Log D g → ℕ
  moment_of log = g.moment log.disk

module _ {L : Type 0} (first : L) (Steps : L → List ℕ → L → Type 0) {D : Type 0} {g : Ghosts D} where
  -- a log that takes records has the records that give this state, in every crash
  pub record Stored (state : L) (log : Log D g) : Type 0 where
    pub file : List ℕ
    pub payloads : List (List ℕ)
    pub holds : Holds file payloads log
    pub gives : After Steps first payloads state

  -- a log that has stopped has in every crash the records that give this state, or one more, which failed
  pub record Stopped (state : L) (log : Log D g) : Type 0 where
    pub payloads : List (List ℕ)
    pub failed : List ℕ
    pub next : L
    pub images : StoppedAt payloads (payloads ++ failed ∷ []) log
    pub gives : After Steps first payloads state
    pub legal : Steps state failed next

  -- the state stands on the log, where the disk tells its bytes
  abbrev pub StandsOn : L → Log D g → Type 0
  StandsOn state log = (file : List ℕ) → g.seen log.disk ≡ Some file → Stored state log ⊎ Stopped state log

  -- a log that takes records has in every crash the records that give one state, and a last one that makes another of it
  pub record LastMade (state next : L) (log : Log D g) : Type 0 where
    pub file : List ℕ
    pub payloads : List (List ℕ)
    pub last : List ℕ
    pub holds : Holds file (payloads ++ last ∷ []) log
    pub gives : After Steps first payloads state
    pub legal : Steps state last next

  -- An image that a crash at a moment since t might have left reopens to this state, or is refused, which is None.
  -- Of a disk that does not tell its bytes nothing is said.
  abbrev pub MayLeave : Log D g → ℕ → Option L → Type 0
  MayLeave log t left = IsTold log × ((image : List ℕ) × g.left_since log.disk t image × ReopensTo first Steps image left)
