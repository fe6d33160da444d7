-- BY WHICH CAUSES the log that a script was run over has ended groups.
use Rattle.std.specs.Prelude.{◌≡◌, ℕ, ◌+◌, ◌<◌, ◌≤◌, Bool, true, false, List, Option, Some, filter, length, ⊤}
use Rattle.std.specs.List.{AllByRecursion}
use Rattle.bf_io.specs.Whole.{IfTold}
use Rattle.bf_run.specs.Answers.{AreSizesOf, is_disk_fault, largest_log, largest_record}
use Rattle.bf_machine.specs.interleaving.Machines.{EndedGroup}
use Rattle.bf_sql.specs.Database.{Database}
use Rattle.bf_tree.specs.declared.history.Entry.{Entry}
use Rattle.bf_tree.specs.declared.script.Script.{Script}
use Rattle.bf_tree.specs.declared.reply.Cause.{Cause}
use Rattle.bf_tree.specs.declared.reply.Cause.TheVariants.{Died, DiskFault, Halted, LogFull, TooLarge}
use Rattle.bf_run.specs.Creating.{Shelving, WhereHeld}
use Rattle.bf_run.specs.declared.status.Status.{Status}
use Rattle.bf_run.specs.declared.status.Status.TheVariants.{Done}

-- what a group can be told by a log with this file, whose disk has counted so many faults: that count, where the log has halted; an end that
-- is less than the file's length, with a need that go past what a log comes to take; or more bytes than the largest record has
abbrev pub IsCause : Option (List ℕ) → ℕ → Cause → Type 0
IsCause file faults (Died older) = ⊥
IsCause file faults DiskFault = ⊤
IsCause file faults (Halted n) = n ≡ faults
IsCause file faults (LogFull end need) =
    IfTold file (λ bytes. end < length bytes) × (largest_log < end + 1 + need) × (need ≤ largest_record + 5)
IsCause file faults (TooLarge size) = largest_record < size

-- a cause of a device that failed
abbrev pub is_of_fault : Cause → Bool
is_of_fault DiskFault = true
is_of_fault (Halted n) = true
is_of_fault other = false

-- CAUSED: each group that the log has ended is told such a cause, and one at most that the device failed; at Done none is told of a
-- fault. A size or a need that is told is that of a record that makes what the group makes, or for a need a move
pub record AreCaused (start : Database) (script : Script) (history : List Entry) (file : Option (List ℕ)) (faults : ℕ) (status : Status) (ended : List EndedGroup) : Type 0 where
  pub each : AllByRecursion (λ group. IsCause file faults group.cause) ended
  pub one_fault : length (filter (λ group. is_disk_fault group.cause) ended) ≤ 1
  pub calm : status ≡ Done → AllByRecursion (λ group. is_of_fault group.cause ≡ false) ended
  pub sized : AreSizesOf start script history ended

module _ {V : Type 0} (shelf : Shelving V) where
  -- the file and the count are those of the disk that is held
  abbrev pub AreOfHeld : Option (List ℕ) → ℕ → Option V → Type 0
  AreOfHeld file faults held = (disk : V) × (held ≡ Some disk) × (file ≡ shelf.seen disk) × (faults ≡ shelf.disk_faults disk)

  -- for some file and some count, which are those of the disk that is held under a path behind the run, where the shelf tells what it holds
  abbrev pub CausesEnds : List ℕ → Status → Script → Database → List Entry → List EndedGroup → Type 0
  CausesEnds path status script start history ended =
      (file : Option (List ℕ)) × (faults : ℕ) × AreCaused start script history file faults status ended
      × WhereHeld (λ old new. AreOfHeld file faults (new path)) shelf.held shelf.held_after
