-- What the close of a tracker tells: it is read off a state of all words and seats.
use Rattle.std.specs.Prelude.{ℕ, ◌≡◌, ◌↔◌, ◌<◌, List}
use lib.ListN.{get_elem?}
use mathlib.Core.Option.{some}
use Rattle.atomic_table.specs.Table.{State}
use Rattle.bf_bits.specs.declared.rule.View.{View}
use Rattle.bf_bits.specs.Positions.{Has}
use Rattle.bf_bits.specs.Tracker.{finishers, Tracks}
use Rattle.bf_bits.specs.Seats.{Seat, Tracker}

-- a state that satisfies the tracker's rule, in which the seat has its view, and in which exactly these positions are finished by some seat
pub record ClosesAs (tracker : Tracker) (seat : Seat) (done : List ℕ) : Type 0 where
  pub last : State (Unit {0}) View
  pub tracks : Tracks tracker.table.words tracker.granules last
  pub seated : (place : ℕ) × (get_elem? last.views place ≡ some seat.view)
  pub told : (at : ℕ) → Has done at ↔ (0 < finishers at last.views)
