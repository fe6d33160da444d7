-- What a shelf holds, and what it lent.
use Rattle.std.specs.Prelude.{◌≡◌, ◌≢◌, ℕ, ◌+◌, ◌-◌, min, nat_lt, if◌then◌else◌, List, [], Option, None, Some, ⊤}
use Rattle.bf_io.specs.Causes.{last_count}
use Rattle.bf_io.specs.Whole.{IfTold}
use Rattle.bf_disk.specs.Images.{Only}

-- what is under each path
abbrev pub ByPath : Type 0 → Type 0
ByPath V = List ℕ → Option V

-- this stands under the path now, and under each other path what stood there
pub record Puts {V : Type 0} (path : List ℕ) (value : Option V) (old new : ByPath V) : Type 0 where
  pub there : new path ≡ value
  pub others : (other : List ℕ) → other ≢ path → new other ≡ old other

-- the same, where the shelf tells what it holds
abbrev pub PutsWhereTold : {V : Type 0} → List ℕ → Option V → Option (ByPath V) → Option (ByPath V) → Type 0
PutsWhereTold path value None None = ⊤
PutsWhereTold path value (Some old) (Some new) = Puts path value old new
PutsWhereTold path value None (Some new) = ⊥
PutsWhereTold path value (Some old) None = ⊥

-- the disk is the one that was held, or an empty one where there was none
abbrev pub IsHeldOrEmpty : {V : Type 0} → (V → Option (List ℕ)) → (V → List ℕ → Type 0) → Option V → V → Type 0
IsHeldOrEmpty seen may_leave (Some held) disk = disk ≡ held
IsHeldOrEmpty seen may_leave None disk = IfTold (seen disk) (λ file. file ≡ []) × Only [] (may_leave disk)

-- what `take` gives, where the shelf tells what it holds
abbrev pub GivesHeld : {V : Type 0} → (V → Option (List ℕ)) → (V → List ℕ → Type 0) → Option (ByPath V) → List ℕ → V → Type 0
GivesHeld seen may_leave None path disk = ⊤
GivesHeld seen may_leave (Some held) path disk = IsHeldOrEmpty seen may_leave (held path) disk

-- how far a disk's count of faults rose since it was lent; a count that stands at its last value tells of no more, so
-- that it may have been any number
abbrev pub rises_since : ℕ → ℕ → ℕ
rises_since lent now = if nat_lt now last_count then now - lent else last_count

-- a count of faults with the faults of a disk since it was lent
abbrev pub with_rises : ℕ → Option ℕ → ℕ → ℕ
with_rises count None now = count
with_rises count (Some lent) now = min (count + rises_since lent now) last_count
