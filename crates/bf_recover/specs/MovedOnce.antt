-- MOVED ONCE: changes that are legal one after the other, what they move of a migration, and that they move nothing twice.
use Rattle.std.specs.Prelude.{◌≡◌, ℕ, ◌==◌, true, List, [], ◌∷◌, flat_map, map, if◌then◌else◌, IsTrue}
use Rattle.std.specs.List.{AllByRecursion}
use Rattle.bf_base.specs.declared.granule.Granule.{Granule}
use Rattle.bf_base.proofs.Apart.{are_apart}
use Rattle.bf_log.specs.Format.{IsLog}
use Rattle.bf_record.specs.Changes.{HasRecord, record_bytes}
use Rattle.bf_record.specs.declared.change.Change.{Change}
use Rattle.bf_record.specs.declared.change.Change.TheVariants.{Commit, Schema, Flip, Move}
use Rattle.bf_sql.specs.migrations.Granules.{same_granule}
use Rattle.bf_sql.specs.migrations.Lazy.{LazyState}
use Rattle.bf_recover.specs.Legal.{changed, is_legal}
use Rattle.bf_recover.specs.Moves.{granules_at}

-- each change is legal in the state that those before it give, and all of them give this state
abbrev pub AreLegalInTurn : LazyState → List Change → LazyState → Type 0
AreLegalInTurn lazy [] after = lazy ≡ after
AreLegalInTurn lazy (change ∷ changes) after = (is_legal lazy change ≡ true) × AreLegalInTurn (changed lazy change) changes after

-- the records of a log spell these changes, one each
pub record AreRecordedIn (file : List ℕ) (changes : List Change) : Type 0 where
  pub have_records : AllByRecursion HasRecord changes
  pub is_log : IsLog (map record_bytes changes) file

-- the granules that a change moves of the migration of a number, as its record names them
abbrev pub moved_of : ℕ → Change → List Granule
moved_of number (Commit writes) = []
moved_of number (Schema change) = []
moved_of number (Flip m) = []
moved_of number (Move migration unit places) = if migration == number then granules_at unit places else []

-- no granule of a migration is named twice, neither by two changes nor by one
abbrev pub MoveOnce : List Change → Type 0
MoveOnce changes = (number : ℕ) → IsTrue (are_apart same_granule (flat_map (moved_of number) changes))
