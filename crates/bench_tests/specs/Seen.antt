-- What is noted in the seats of a hall, and what is told of its rows.
use Rattle.std.specs.Prelude.{◌≡◌, ⊤, ◌⊎◌, ℕ, ◌+◌, ◌<◌, ◌≤◌, List, [], ◌∷◌, ◌++◌, length, Option, Some, IfSome, slice_get}
use Rattle.std.specs.List.{AllByRecursion}
use Rattle.bf_base.specs.declared.granule.Granule.{Granule}
use Rattle.bf_base.specs.declared.granule.Place.{Place}
use Rattle.bf_base.specs.declared.granule.Place.TheVariants.{Row, Group}
use Rattle.bf_bench.specs.Notes.{Notes}
use Rattle.bf_bench.specs.declared.bench.Taken.{Taken}
use Rattle.bf_bench.specs.declared.bench.Taken.TheVariants as taken
use Rattle.bf_drive.specs.Claims.{IsOf}
use Rattle.bf_drive.specs.Lists.{AreDifferent, Entry}
use Rattle.bench_tests.specs.declared.hall.Seats.{Seats}

abbrev pub notes_in : Seats → Notes
notes_in seats = record {
  migration = seats.migration;
  noted = seats.noted;
  asked = seats.asked;
  given_back = seats.given_back;
  session_ended = seats.session_ended;
  phase_ended = seats.phase_ended;
}

-- the seats know how many claims they hold
abbrev pub HoldsSoMany : Seats → List Entry → Type 0
HoldsSoMany seats held = length held ≡ seats.held

-- what was taken of a granule is of it
abbrev pub IsTaken : Granule → Taken → Type 0
IsTaken granule (taken.Claimed claim) = IsOf granule claim
IsTaken granule other = ⊤

-- how many claims are held, with what was taken
abbrev pub held_with : Taken → ℕ → ℕ
held_with (taken.Claimed claim) held = held + 1
held_with other held = held

-- the position of a row
abbrev pub position_at : Place → ℕ
position_at (Row position) = position
position_at (Group key) = 0

-- each granule is of a row before this one
abbrev pub AreBefore : ℕ → List Granule → Type 0
AreBefore position granules = (i : ℕ) (granule : Granule) → slice_get granules i ≡ Some granule → position_at granule.place < position

-- WANTED: at most so many granules of rows before this one, all different, of one unit where one is wanted
pub record AreWanted (position most : ℕ) (wanted : Option ℕ) (granules : List Granule) : Type 0 where
  pub different : AreDifferent granules
  pub before : AreBefore position granules
  pub few : length granules ≤ most
  pub unit : IfSome wanted (λ unit. AllByRecursion (λ granule. granule.unit ≡ unit) granules)

-- the granule of this row stands behind the others
pub record IsMore (position most : ℕ) (wanted : Option ℕ) (old new : List Granule) : Type 0 where
  pub granule : Granule
  pub few : length old < most
  pub place : position_at granule.place ≡ position
  pub unit : IfSome wanted (λ unit. granule.unit ≡ unit)
  pub more : new ≡ old ++ granule ∷ []

abbrev pub MayAdd : ℕ → ℕ → Option ℕ → List Granule → List Granule → Type 0
MayAdd position most wanted old new = (new ≡ old) ⊎ IsMore position most wanted old new
