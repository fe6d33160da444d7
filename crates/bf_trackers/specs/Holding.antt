-- HELD: which claims of which granules seats hold.
use Rattle.std.specs.Prelude.{◌≡◌, ℕ, ◌==◌, Bool, true, false, List, [], ◌∷◌, fold, length, slice_get, ⊤}
use Rattle.std.specs.List.{AllByRecursion}
use Rattle.bf_drive.specs.Claims.{IsOf}
use Rattle.bf_drive.specs.Lists.{Entry}
use Rattle.bf_drive.specs.declared.claim.Claim.{Claim}
use Rattle.bf_drive.specs.declared.claim.Claim.TheVariants.{Row, Group}
use Rattle.bf_trackers.specs.declared.seats.Ending.{Ending}
use Rattle.bf_trackers.specs.declared.units.UnitTracker.{UnitTracker}
use Rattle.bf_trackers.specs.declared.units.UnitTracker.TheVariants.{Rows, Keys}
use Rattle.bf_trackers.specs.Seats.{Seats, held_at, finished_at, finished_by}
use Rattle.bf_trackers.specs.Units.{AreSeatsOf, IsThere}

-- a claim is one of a tracker's: of its positions, or of its keys
abbrev pub IsClaimOf : Claim → UnitTracker → Type 0
IsClaimOf (Row claim) (Rows bits) = claim.table ≡ bits.table
IsClaimOf (Row claim) (Keys count) = ⊥
IsClaimOf (Group claim) (Rows bits) = ⊥
IsClaimOf (Group claim) (Keys count) = ⊤

-- a granule with a claim of it, by the tracker of its unit
abbrev pub IsClaimed : List UnitTracker → Entry → Type 0
IsClaimed units entry = IsOf entry.0 entry.1 × IsThere (IsClaimOf entry.1) (slice_get units (entry.0).unit)

-- the positions that are held by a further claim, if it is one of a unit's, the last that was claimed first
abbrev pub held_if : Bool → Claim → List ℕ → List ℕ
held_if true (Row claim) held = claim.at ∷ held
held_if true (Group claim) held = held
held_if false claim held = held

abbrev pub held_by : ℕ → List Entry → List ℕ
held_by unit entries = fold (λ held entry. held_if ((entry.0).unit == unit) entry.1 held) [] entries

-- seats of these trackers hold these claims and no others, in the order in which they were made
pub record HoldClaims (units : List UnitTracker) (seats : Seats) (entries : List Entry) : Type 0 where
  pub own : AreSeatsOf units seats.units
  pub each : AllByRecursion (IsClaimed units) entries
  pub count : seats.count ≡ length entries
  pub rows : (unit : ℕ) → held_at seats unit ≡ held_by unit entries

-- ---- the end of claims
-- the finished positions behind the end of a claim, if it is one of a unit's, and of some claims, the last of them first
abbrev pub finished_if : Ending → Bool → Claim → List ℕ → List ℕ
finished_if ending true (Row claim) finished = finished_by ending claim.at finished
finished_if ending true (Group claim) finished = finished
finished_if ending false claim finished = finished

abbrev pub finished_with : Ending → ℕ → List Entry → List ℕ → List ℕ
finished_with ending unit [] finished = finished
finished_with ending unit (entry ∷ entries) finished = finished_if ending ((entry.0).unit == unit) entry.1 (finished_with ending unit entries finished)

-- the finished positions of each unit, behind the end of some claims
abbrev pub AreFinished : Ending → List Entry → Seats → Seats → Type 0
AreFinished ending entries old new = (unit : ℕ) → finished_at new unit ≡ finished_with ending unit entries (finished_at old unit)
