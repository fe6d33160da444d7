-- WHAT BECOMES of a log where no report tells of a run over it: it could not be opened, or memory ran out.
use Rattle.std.specs.Prelude.{◌≡◌, ◌⊎◌, ℕ, List, [], Option, Some, Ok}
use Rattle.bf_disk.specs.Images.{OnlyRead}
use Rattle.bf_disk.specs.Shelves.{IsHeldOrEmpty}
use Rattle.bf_disk.specs.declared.disk.Disk.{Ghosts}
use Rattle.bf_io.specs.Whole.{IfTold}
use Rattle.bf_run.specs.Crashing.{AreGroupsInOrder}
use Rattle.bf_log.specs.Append.{disk_of}
use Rattle.bf_log.specs.declared.log.Log.{Log}
use Rattle.bf_parse.specs.Scripts.{IsScriptText}
use Rattle.bf_sql.specs.Database.{Database}
use Rattle.bf_tree.specs.declared.history.Entry.{Entry}
use Rattle.bf_tree.specs.declared.script.Script.{Script}
use Rattle.bf_run.specs.Creating.{Shelving, IsReadAlone, WhereHeld}
use Rattle.bf_run.specs.Keeping.{KeepsFile, KeepsOn}
use Rattle.bf_run.specs.Running.{OpensTo}
use Rattle.bf_run.specs.declared.status.Status.TheVariants.{Memory}

-- a run over a log ended for want of memory: its log is as it was, or groups of the script have run, and a crash leaves a prefix of them
abbrev pub IsBrokenOffOn : {D : Type 0} {g : Ghosts D} → Database → Log D g → D → Script → Type 0
IsBrokenOffOn opening log disk script =
    (disk ≡ disk_of log) ⊎ ((history : List Entry) × AreGroupsInOrder script history × KeepsOn log disk Memory script opening history [])

module _ {V : Type 0} (seen : V → Option (List ℕ)) (may_leave : V → List ℕ → Type 0) (moment : V → ℕ) (left_since : V → ℕ → List ℕ → Type 0) where
  -- a file is as it was, or was read
  abbrev pub IsReadAtMost : V → V → Type 0
  IsReadAtMost old new = (new ≡ old) ⊎ OnlyRead seen may_leave moment left_since old new

  -- BROKEN OFF: a run over what the file opens to ended for want of memory, and a crash leaves the database behind a prefix of
  -- whole groups of the script; or behind one group more, whose change failed
  pub record IsBrokenOff (script : Script) (old new : V) : Type 0 where
    pub start : Database
    pub opens : IfTold (seen old) (λ file. OpensTo file start)
    pub history : List Entry
    pub groups : AreGroupsInOrder script history
    pub kept : IfTold (seen new) (λ file. KeepsFile may_leave moment left_since old new Memory script start history [])

  abbrev pub IsUntold : Script → V → V → Type 0
  IsUntold script old new = IsReadAtMost old new ⊎ IsBrokenOff script old new

module _ {V : Type 0} (shelf : Shelving V) where
  -- what is held is as it was, or was read
  abbrev pub IsReadLog : Option V → Option V → Type 0
  IsReadLog held new = (new ≡ held) ⊎ ((disk : V) × IsHeldOrEmpty shelf.seen shelf.may_leave held disk × IsReadAlone shelf (Some disk) new)

  -- or a run over it was broken off
  abbrev pub IsLogBrokenOff : Script → Option V → Option V → Type 0
  IsLogBrokenOff script held new =
      (old then : V) × IsHeldOrEmpty shelf.seen shelf.may_leave held old × (new ≡ Some then)
      × IsBrokenOff shelf.seen shelf.may_leave shelf.moment shelf.left_since script old then

  -- of the log under a path
  abbrev pub ReadsLog : List ℕ → Type 0
  ReadsLog path = WhereHeld (λ old new. IsReadLog (old path) (new path)) shelf.held shelf.held_after

  abbrev pub LeavesUntold : List ℕ → Script → Type 0
  LeavesUntold path script = WhereHeld (λ old new. IsReadLog (old path) (new path) ⊎ IsLogBrokenOff script (old path) (new path)) shelf.held shelf.held_after

-- WITHOUT MEMORY: the log was read at most, or the input is a script whose run over it was broken off
abbrev pub RunsOut : {V : Type 0} → Option (List ℕ) → Shelving V → List ℕ → Type 0
RunsOut told shelf path =
    ReadsLog shelf path
    ⊎ ((bytes : List ℕ) × IfTold told (λ all. bytes ≡ all) × ((script : Script) × IsScriptText bytes (Ok script) × LeavesUntold shelf path script))
