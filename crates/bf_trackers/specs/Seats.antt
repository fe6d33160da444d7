-- The seats of an actor, as contracts see them.
use Rattle.std.specs.Prelude.{ℕ, ◌+◌, ◌-◌, List, [], ◌∷◌, Option, Some, option_map, slice_get, slice_set, unwrap_or}
use Rattle.std.specs.Option.{option_and_then}
use Rattle.bf_bits.specs.declared.answer.Look.{Look}
use Rattle.bf_bits.specs.declared.answer.Look.TheVariants.{Free, Held, Done}
use Rattle.bf_bits.specs.Positions.{without}
use Rattle.bf_bits.specs.Seats.{Seat, after_step}
use Rattle.bf_bits.specs.Steps.{held_after}
use Rattle.bf_bits.specs.Words.{state_in}
use Rattle.bf_trackers.specs.declared.seats.Ending.{Ending}
use Rattle.bf_trackers.specs.declared.seats.Ending.TheVariants.{Finished, GivenBack}

-- the seat of each unit, where it goes by rows, and how many claims are held of all units
pub record Seats : Type 0 where
  pub units : List (Option Seat)
  pub count : ℕ

-- the seat of a unit, if it goes by rows; what it holds and has finished; and the word that its last step found
abbrev pub seat_at : Seats → ℕ → Option Seat
seat_at seats unit = option_and_then (λ seat. seat) (slice_get seats.units unit)

abbrev pub held_at : Seats → ℕ → List ℕ
held_at seats unit = unwrap_or (option_map (λ seat. seat.view.held) (seat_at seats unit)) []

abbrev pub finished_at : Seats → ℕ → List ℕ
finished_at seats unit = unwrap_or (option_map (λ seat. seat.view.finished) (seat_at seats unit)) []

abbrev pub found_at : Seats → ℕ → ℕ
found_at seats unit = unwrap_or (option_map (λ seat. seat.view.found) (seat_at seats unit)) 0

-- ---- after one step on a position
-- of a claim, which found a word
abbrev pub claimed_by : ℕ → ℕ → Seat → Seat
claimed_by at found seat = after_step seat found (held_after at (state_in found at) seat.view.held) seat.view.finished

abbrev pub one_if_free : Look → ℕ
one_if_free Free = 1
one_if_free Held = 0
one_if_free Done = 0

abbrev pub with_seat : Seats → ℕ → Seat → ℕ → Seats
with_seat seats unit seat count = record { units = slice_set seats.units unit (Some seat); count = count }

abbrev pub after_claim : Seats → ℕ → ℕ → ℕ → Seat → Seats
after_claim seats unit at found seat = with_seat seats unit (claimed_by at found seat) (seats.count + one_if_free (state_in found at))

-- of the end of a claim
abbrev pub finished_by : Ending → ℕ → List ℕ → List ℕ
finished_by Finished at finished = at ∷ finished
finished_by GivenBack at finished = finished

abbrev pub ended_by : Ending → ℕ → ℕ → Seat → Seat
ended_by ending at found seat = after_step seat found (without at seat.view.held) (finished_by ending at seat.view.finished)

abbrev pub after_end : Ending → Seats → ℕ → ℕ → ℕ → Seat → Seats
after_end ending seats unit at found seat = with_seat seats unit (ended_by ending at found seat) (seats.count - 1)
