-- WHAT THE OPTIONS OF A RUN ASK FOR: the rows counted, and all of the last migration moved.
use Rattle.std.specs.Prelude.{◌≡◌, ◌⊎◌, ℕ, ◌+◌, ◌<◌, ◌≤◌, Bool, true, false, List, length, map, Option, None, Some}
use Rattle.bf_io.specs.Whole.{IfTold}
use Rattle.bf_log.specs.Format.{frame}
use Rattle.bf_machine.specs.interleaving.Journals.{IsMoveIn}
use Rattle.bf_recover.specs.Flips.{says_complete}
use Rattle.bf_sql.specs.Bound.{catalog_of}
use Rattle.bf_sql.specs.Database.{Database, table_rows}
use Rattle.bf_sql.specs.migrations.Lazy.{LazyState, sweep_of}
use Rattle.bf_run.specs.Answers.{HasRecordOf, largest_log, largest_record}
use Rattle.bf_run.specs.Creating.{Shelving, WhereHeld}
use Rattle.bf_run.specs.declared.status.Status.{Status}
use Rattle.bf_run.specs.declared.status.Status.TheVariants.{Done}

-- AUDIT of a database: of each table, in the order of names, its name and how many rows it has
abbrev pub audit_of : Database → List (List ℕ × ℕ)
audit_of db = map (λ t. (t.name, length (table_rows db t.name))) (catalog_of db).tables

-- where it was asked for
abbrev pub audit_if : Bool → Database → Option (List (List ℕ × ℕ))
audit_if false db = None
audit_if true db = Some (audit_of db)

-- FULL: a move in this state has a record, no larger than records may be, that with its frame goes past what a log comes to take, behind an
-- end within the file
pub record IsFull (last : LazyState) (file : Option (List ℕ)) : Type 0 where
  pub next : LazyState
  pub move : IsMoveIn last next
  pub size : ℕ
  pub has_record : HasRecordOf last next size
  pub fits : size ≤ largest_record
  pub end : ℕ
  pub within : IfTold file (λ bytes. end < length bytes)
  pub past : largest_log < end + 1 + (size + frame)

-- FINISHED: where that was asked for, at Done nothing of the last migration is left to move, or there was none; unless the log is full
abbrev pub IsFinished : Bool → Status → Option (List ℕ) → LazyState → Type 0
IsFinished finish status file last = finish ≡ true → status ≡ Done → (says_complete (sweep_of last.last) ≡ true) ⊎ IsFull last file

module _ {V : Type 0} (shelf : Shelving V) where
  -- the file is that of the disk that is held
  abbrev pub IsOfHeld : Option (List ℕ) → Option V → Type 0
  IsOfHeld file held = (disk : V) × (held ≡ Some disk) × (file ≡ shelf.seen disk)

  -- for some file, which is that of the disk that is held under a path behind the run, where the shelf tells what it holds
  abbrev pub Finishes : List ℕ → Bool → Status → LazyState → Type 0
  Finishes path finish status last =
      (file : Option (List ℕ)) × IsFinished finish status file last × WhereHeld (λ old new. IsOfHeld file (new path)) shelf.held shelf.held_after
