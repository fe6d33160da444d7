-- The trackers of units, the places that they track, and seats of them.
use Rattle.std.specs.Prelude.{◌≡◌, ℕ, ◌==◌, ◌<◌, All, Bool, true, false, List, [], ◌∷◌, Option, Some, None, flat_map, length, map, slice_get, ⊤}
use Rattle.bf_base.specs.declared.granule.Granule.{Granule}
use Rattle.bf_base.specs.declared.granule.Place.{Place}
use Rattle.bf_base.specs.declared.granule.Place.TheVariants.{Row, Group}
use Rattle.bf_bench.specs.declared.bench.Taken.{Taken}
use Rattle.bf_bits.specs.Answers.{answer_for}
use Rattle.bf_bits.specs.Positions.{IsDistinct}
use Rattle.bf_bits.specs.Seats.{Seat, first_seat, new_seat}
use Rattle.bf_bits.specs.Words.{state_in}
use Rattle.bf_trackers.specs.Answers.{taken_as, IsOfKey}
use Rattle.bf_trackers.specs.Seats.{Seats, found_at}
use Rattle.bf_trackers.specs.declared.units.Shape.{Shape}
use Rattle.bf_trackers.specs.declared.units.Shape.TheVariants as shape
use Rattle.bf_trackers.specs.declared.units.UnitTracker.{UnitTracker}
use Rattle.bf_trackers.specs.declared.units.UnitTracker.TheVariants as tracker

-- the item at an index is there and has a property
module _ {X : Type 0} (Has : X → Type 0) where
  abbrev pub IsThere : Option X → Type 0
  IsThere None = ⊥
  IsThere (Some x) = Has x

-- ---- places
abbrev pub IsPlaceOf : Place → Shape → Type 0
IsPlaceOf (Row at) (shape.Rows rows) = at < rows
IsPlaceOf (Row at) shape.Keys = ⊥
IsPlaceOf (Group key) (shape.Rows rows) = ⊥
IsPlaceOf (Group key) shape.Keys = ⊤

abbrev pub shape_of : UnitTracker → Shape
shape_of (tracker.Rows bits) = shape.Rows bits.granules
shape_of (tracker.Keys count) = shape.Keys

-- a granule has its place in a unit
abbrev pub HasPlace : List UnitTracker → Granule → Type 0
HasPlace units granule = IsThere (λ unit. IsPlaceOf granule.place (shape_of unit)) (slice_get units granule.unit)

-- ---- answers
-- the answer to a claim of a place, whose step found a word where the unit goes by rows: Busy and Done exactly where that says so
abbrev pub IsAnswerOf : UnitTracker → Place → ℕ → Taken → Type 0
IsAnswerOf (tracker.Rows bits) (Row at) found taken = taken ≡ taken_as (answer_for bits.table at (state_in found at))
IsAnswerOf (tracker.Rows bits) (Group key) found taken = ⊥
IsAnswerOf (tracker.Keys count) (Row at) found taken = ⊥
IsAnswerOf (tracker.Keys count) (Group key) found taken = IsOfKey key taken

abbrev pub IsAnswered : List UnitTracker → Seats → Granule → Taken → Type 0
IsAnswered units seats granule taken = IsThere (λ unit. IsAnswerOf unit granule.place (found_at seats granule.unit) taken) (slice_get units granule.unit)

-- ---- seats
abbrev pub IsSeatOf : UnitTracker → Option Seat → Type 0
IsSeatOf (tracker.Rows bits) (Some seat) = seat.table ≡ bits.table
IsSeatOf (tracker.Rows bits) None = ⊥
IsSeatOf (tracker.Keys count) (Some seat) = ⊥
IsSeatOf (tracker.Keys count) None = ⊤

-- a seat for each unit that goes by rows, of its tracker
pub record AreSeatsOf (units : List UnitTracker) (seats : List (Option Seat)) : Type 0 where
  pub as_many : length seats ≡ length units
  pub each : (i : ℕ) (unit : UnitTracker) (seat : Option Seat) → slice_get units i ≡ Some unit → slice_get seats i ≡ Some seat → IsSeatOf unit seat

-- a seat that holds nothing and has finished nothing
abbrev pub new_seat_of : UnitTracker → Option Seat
new_seat_of (tracker.Rows bits) = Some (new_seat bits.table)
new_seat_of (tracker.Keys count) = None

-- ---- the making
-- the position of a granule, if it is one of a unit's, and those of some granules in their order
abbrev pub position_if : Bool → Place → List ℕ
position_if true (Row at) = at ∷ []
position_if true (Group key) = []
position_if false place = []

abbrev pub positions_in : ℕ → List Granule → List ℕ
positions_in unit granules = flat_map (λ granule. position_if (granule.unit == unit) granule.place) granules

-- what may be done at the making: of a unit that goes by rows each position once
abbrev pub MayBeDone : List ℕ → Shape → Type 0
MayBeDone positions (shape.Rows rows) = IsDistinct positions × All (λ at. at < rows) positions
MayBeDone positions shape.Keys = ⊤

abbrev pub AreDoneIn : List Shape → List Granule → Type 0
AreDoneIn shapes done = (unit : ℕ) (shape : Shape) → slice_get shapes unit ≡ Some shape → MayBeDone (positions_in unit done) shape

-- the first seat of a tracker in which some positions are done
abbrev pub first_seat_of : List ℕ → UnitTracker → Option Seat
first_seat_of positions (tracker.Rows bits) = Some (first_seat bits.table positions)
first_seat_of positions (tracker.Keys count) = None

-- MADE: trackers of some shapes in which these granules are done, with their first seats
pub record AreMade (shapes : List Shape) (done : List Granule) (units : List UnitTracker) (seats : List (Option Seat)) : Type 0 where
  pub of_shapes : map shape_of units ≡ shapes
  pub as_many : length seats ≡ length units
  pub firsts : (i : ℕ) (unit : UnitTracker) → slice_get units i ≡ Some unit → slice_get seats i ≡ Some (first_seat_of (positions_in i done) unit)
