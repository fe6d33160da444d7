-- What `create` makes of the file under a path.
use Rattle.std.specs.Prelude.{◌≡◌, ◌≢◌, ◌⊎◌, ℕ, ◌<◌, List, [], length, Option, None, Some, IsSome, ⊤}
use Rattle.bf_io.specs.Causes.{Rose, last_count}
use Rattle.bf_io.specs.Whole.{IfTold}
use Rattle.bf_disk.specs.Images.{Only, OnlyRead}
use Rattle.bf_disk.specs.Shelves.{ByPath}
use Rattle.bf_log.specs.Format.{empty_log}

-- SHELF: what its disks tell of themselves, and their counts of faults; and what it holds under each path, where it
-- tells it, and its own count of faults, each before and after a call
pub record Shelving (V : Type 0) : Type 1 where
  pub seen : V → Option (List ℕ)
  pub may_leave : V → List ℕ → Type 0
  pub moment : V → ℕ
  pub left_since : V → ℕ → List ℕ → Type 0
  pub disk_faults : V → ℕ
  pub held : Option (ByPath V)
  pub held_after : Option (ByPath V)
  pub faults : ℕ
  pub faults_after : ℕ

-- a shelf before and after a call, by what it and its disks tell
abbrev pub shelf_of : {S V : Type 0} (seen : V → Option (List ℕ)) (may_leave : V → List ℕ → Type 0) (moment : V → ℕ)
    (left_since : V → ℕ → List ℕ → Type 0) (disk_faults : V → ℕ) (held : S → Option (ByPath V)) (fault_count : S → ℕ) (old new : S) → Shelving V
shelf_of seen may_leave moment left_since disk_faults held fault_count old new = record {
  seen = seen;
  may_leave = may_leave;
  moment = moment;
  left_since = left_since;
  disk_faults = disk_faults;
  held = held old;
  held_after = held new;
  faults = fault_count old;
  faults_after = fault_count new;
}

-- what holds of all that is held before and after, where that is told
abbrev pub WhereHeld : {V : Type 0} → (ByPath V → ByPath V → Type 0) → Option (ByPath V) → Option (ByPath V) → Type 0
WhereHeld R None None = ⊤
WhereHeld R (Some old) (Some new) = R old new
WhereHeld R None (Some new) = ⊥
WhereHeld R (Some old) None = ⊥

module _ {V : Type 0} (shelf : Shelving V) where
  -- there is no file, or an empty one
  abbrev pub IsEmptyFile : Option V → Type 0
  IsEmptyFile None = ⊤
  IsEmptyFile (Some disk) = IfTold (shelf.seen disk) (λ file. file ≡ [])

  -- the file is an empty log, and so each crash leaves it
  abbrev pub IsNewLog : Option V → Type 0
  IsNewLog None = ⊥
  IsNewLog (Some disk) = IfTold (shelf.seen disk) (λ file. (file ≡ empty_log) × Only empty_log (shelf.may_leave disk))

  -- the file was read at most: it reads the same, and a crash at any moment leaves what one could before
  abbrev pub IsReadAlone : Option V → Option V → Type 0
  IsReadAlone None None = ⊤
  IsReadAlone (Some old) (Some new) =
      (new ≡ old) ⊎ OnlyRead shelf.seen shelf.may_leave shelf.moment shelf.left_since old new
  IsReadAlone None (Some new) = ⊥
  IsReadAlone (Some old) None = ⊥

  -- The file has so many bytes, and was read at most. Where there was none, no disk that tells its bytes is refused.
  abbrev pub HasBytes : ℕ → Option V → Option V → Type 0
  HasBytes n (Some old) new = IfTold (shelf.seen old) (λ file. length file ≡ n) × IsReadAlone (Some old) new
  HasBytes n None (Some new) = IfTold (shelf.seen new) (λ file. ⊥)
  HasBytes n None None = ⊥

  -- a file that has bytes is not written to
  abbrev pub KeepsBytes : Option V → Option V → Type 0
  KeepsBytes None new = ⊤
  KeepsBytes (Some old) new = IfTold (shelf.seen old) (λ file. 0 < length file → IsReadAlone (Some old) new)

  -- no fault was counted, or the count stands at its last value, to which a disk takes it whose own stands there
  abbrev pub CountsNone : Type 0
  CountsNone = (shelf.faults_after ≡ shelf.faults) ⊎ (shelf.faults_after ≡ last_count)

  -- a fault was counted, or the count stands at its last value
  abbrev pub CountsOne : Type 0
  CountsOne = Rose shelf.faults shelf.faults_after

  -- of an empty file, or of none, a log was made
  abbrev pub Makes : List ℕ → Type 0
  Makes path =
      CountsNone × WhereHeld (λ old new. IsEmptyFile (old path) × IsNewLog (new path)) shelf.held shelf.held_after

  -- the file has so many bytes already
  abbrev pub Refuses : List ℕ → ℕ → Type 0
  Refuses path n =
      (0 < n) × CountsNone × WhereHeld (λ old new. HasBytes n (old path) (new path)) shelf.held shelf.held_after

  -- whatever came of it, the files under other paths are as they were, and one that has bytes was not written to
  abbrev pub Spares : List ℕ → Type 0
  Spares path = WhereHeld
      (λ old new. ((other : List ℕ) → other ≢ path → new other ≡ old other) × KeepsBytes (old path) (new path))
      shelf.held shelf.held_after

  -- the shelf tells what it holds, and its disks their bytes
  abbrev pub TellsFiles : Type 0
  TellsFiles = IsSome shelf.held × ((disk : V) → IsSome (shelf.seen disk))
