-- What `run` makes of the log in the file under a path.
use Rattle.std.specs.Prelude.{◌≡◌, ◌≢◌, ℕ, List, Option, Some}
use Rattle.bf_io.specs.Whole.{IfTold}
use Rattle.bf_disk.specs.Shelves.{IsHeldOrEmpty}
use Rattle.bf_journal.specs.Reopening.{RefusedAt, ReopensTo}
use Rattle.bf_recover.specs.Legal.{first_state}
use Rattle.bf_recover.specs.Steps.{StepsTo}
use Rattle.bf_sql.specs.Database.{Database}
use Rattle.bf_sql.specs.migrations.Lazy.{LazyState, view_of}
use Rattle.bf_run.specs.Creating.{Shelving, CountsNone, IsReadAlone, WhereHeld}

-- OPENS: the records that a file has give in turn a state that is seen as this database
abbrev pub OpensTo : List ℕ → Database → Type 0
OpensTo file start = (state : LazyState) × ReopensTo first_state StepsTo file (Some state) × (start ≡ view_of state)

module _ {V : Type 0} (shelf : Shelving V) where
  -- the disk that a path gives, where this is held under it: an empty one where nothing is
  abbrev pub IsTaken : Option V → V → Type 0
  IsTaken held disk = IsHeldOrEmpty shelf.seen shelf.may_leave held disk

  -- what is held is a log that opens to a database
  abbrev pub IsLogOf : Database → Option V → Type 0
  IsLogOf start held = (disk : V) × IsTaken held disk × IfTold (shelf.seen disk) (λ file. OpensTo file start)

  -- REFUSED: reopening stops at this offset first, and the file was read at most
  abbrev pub IsRefusedLog : ℕ → Option V → Option V → Type 0
  IsRefusedLog at held new =
      (disk : V) × IsTaken held disk × IfTold (shelf.seen disk) (λ file. RefusedAt first_state StepsTo file at)
      × IsReadAlone shelf (Some disk) new

  -- the log under a path opens to a database
  abbrev pub Opens : List ℕ → Database → Type 0
  Opens path start = WhereHeld (λ old new. IsLogOf start (old path)) shelf.held shelf.held_after

  -- and is refused
  abbrev pub RefusesLog : List ℕ → ℕ → Type 0
  RefusesLog path at = CountsNone shelf × WhereHeld (λ old new. IsRefusedLog at (old path) (new path)) shelf.held shelf.held_after

  -- whatever came of it, the files under other paths are as they were
  abbrev pub KeepsOthers : List ℕ → Type 0
  KeepsOthers path = WhereHeld (λ old new. (other : List ℕ) → other ≢ path → new other ≡ old other) shelf.held shelf.held_after
