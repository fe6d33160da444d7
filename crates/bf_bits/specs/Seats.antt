-- Trackers, seats and answers, as contracts see them.
use Rattle.std.specs.Prelude.{ℕ, ◌≡◌, ◌*◌, ◌<◌, ◌≤◌, List, []}
use Rattle.atomic_table.specs.Table.{Me}
use Rattle.atomic_table.specs.Seated.{TableId}
use Rattle.bf_bits.specs.declared.rule.View.{View}
use Rattle.bf_bits.specs.declared.rule.Made.{Made}
use Rattle.bf_bits.specs.Positions.{granules_per_word, Has, IsWithin}
use Rattle.bf_bits.specs.Tracker.{nobody, beginner, both_of}
use Rattle.bf_bits.specs.Steps.{next}

-- a tracker: how many granules it has, and which table of words it is
pub record Tracker : Type 0 where
  pub granules : ℕ
  pub table : TableId

-- a seat: the table that it is a seat of, and what it knows
pub record Seat : Type 0 where
  pub table : TableId
  pub view : View

-- a claim: the table of its tracker, and its position there
pub record Claim : Type 0 where
  pub table : TableId
  pub at : ℕ

-- the seat holds a position, or has finished it
abbrev pub Holds : Seat → ℕ → Type 0
Holds seat p = Has seat.view.held p

abbrev pub HasFinished : Seat → ℕ → Type 0
HasFinished seat p = Has seat.view.finished p

-- ---- seats at the making, and after a call
abbrev pub first_seat : TableId → List ℕ → Seat
first_seat table done = record { table = table; view = beginner done }

abbrev pub new_seat : TableId → Seat
new_seat table = record { table = table; view = nobody }

-- after one step, which found a word and leaves these lists
abbrev pub after_step : Seat → ℕ → List ℕ → List ℕ → Seat
after_step seat found held finished = record seat { view = next seat.view found held finished }

abbrev pub joined : Seat → Seat → Seat
joined seat other = record seat { view = both_of seat.view other.view }

-- ---- what a tracker and a seat keep
pub record IsMade (table : TableId) (made : Made) (granules : ℕ) : Type 0 where
  pub room : granules ≤ granules_per_word * table.words
  pub some : 0 < table.words
  pub no_slots : table.slots ≡ 0
  pub same_words : made.words ≡ table.words
  pub same_granules : made.granules ≡ granules

pub record IsSeated (table : TableId) (me : Me (Unit {0}) View) : Type 0 where
  pub no_slots : me.1 ≡ []
  pub within : IsWithin table.words me.0.held
