-- The rule of a tracker: what holds of its words and of all seats' views between any two steps.
use Rattle.std.specs.Prelude.{ℕ, ◌≡◌, ◌+◌, ◌<◌, ◌≤◌, List, [], ◌∷◌, ◌++◌, slice_index, length}
use Rattle.atomic_table.specs.Table.{State}
use Rattle.bf_bits.specs.declared.rule.View.{View}
use Rattle.bf_bits.specs.Positions.{word_of, times}
use Rattle.bf_bits.specs.Words.{lock_in, migrate_in}

-- ---- views
abbrev pub nobody : View
nobody = record { held = []; finished = []; found = 0; steps = 0 }

-- the view of the first seat, where these were done at the making
abbrev pub beginner : List ℕ → View
beginner done = record nobody { finished = done }

-- the view of a seat that took in another
abbrev pub both_of : View → View → View
both_of v w = record v { held = v.held ++ w.held; finished = v.finished ++ w.finished }

-- ---- how often a position stands in the lists of all views
abbrev pub total : (View → ℕ) → List View → ℕ
total f [] = 0
total f (v ∷ vs) = f v + total f vs

abbrev pub holders : ℕ → List View → ℕ
holders p views = total (λ v. times p v.held) views

abbrev pub finishers : ℕ → List View → ℕ
finishers p views = total (λ v. times p v.finished) views

-- ---- the rule of one position, as two equations: its bits, and how often it stands in all held and all finished lists
pub record Orderly (lock migrate held finished : ℕ) : Type 0 where
  pub locked : lock ≡ held + finished
  pub migrated : migrate ≡ finished

abbrev pub Keeps : List ℕ → List View → Type 0
Keeps words views = (p : ℕ) → Orderly (lock_in (slice_index words (word_of p)) p) (migrate_in (slice_index words (word_of p)) p) (holders p views) (finishers p views)

-- so many words, each position is in order, and what stands in a list is below the number of granules
abbrev pub Tracks : ℕ → ℕ → State (Unit {0}) View → Type 0
Tracks words granules s =
    (length s.words ≡ words) × Keeps s.words s.views × ((p : ℕ) → 0 < holders p s.views + finishers p s.views → p < granules)

-- ---- the same in the words of a reader
pub record AreFour (lock migrate held finished : ℕ) : Type 0 where
  pub migrated_is_locked : migrate ≡ 1 → lock ≡ 1
  pub held_has_the_lock_alone : 0 < held → (lock ≡ 1) × (migrate ≡ 0)
  pub finished_is_migrated : 0 < finished → migrate ≡ 1
  pub stands_once : held + finished ≤ 1

abbrev pub IsTracked : State (Unit {0}) View → ℕ → Type 0
IsTracked s p = AreFour (lock_in (slice_index s.words (word_of p)) p) (migrate_in (slice_index s.words (word_of p)) p) (holders p s.views) (finishers p s.views)
