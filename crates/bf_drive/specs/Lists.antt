-- Lists of at most `most_granules` granules, all different, alone or each with its claim.
use Rattle.std.specs.Prelude.{ℕ, ◌≡◌, ◌≢◌, ◌≤◌, List, Some, map, length, slice_get}
use Rattle.bf_base.specs.declared.granule.Granule.{Granule}
use Rattle.bf_drive.specs.declared.claim.Claim.{Claim}
use Rattle.bf_drive.specs.Claims.{IsOf}

-- how many granules a list holds at most
abbrev pub most_granules : ℕ
most_granules = 64

-- a granule stands nowhere in a list
abbrev pub Lacks : List Granule → Granule → Type 0
Lacks granules granule = (i : ℕ) → slice_get granules i ≢ Some granule

-- no granule stands at two places
abbrev pub AreDifferent : List Granule → Type 0
AreDifferent granules = (i j : ℕ) (granule : Granule) → slice_get granules i ≡ Some granule → slice_get granules j ≡ Some granule → i ≡ j

-- a granule with its claim
abbrev pub Entry : Type 0
Entry = Granule × Claim

abbrev pub granules_in : List Entry → List Granule
granules_in entries = map (λ entry. entry.0) entries

-- ---- what is true of each list
pub record IsSkip (granules : List Granule) : Type 0 where
  pub few : length granules ≤ most_granules
  pub different : AreDifferent granules

pub record IsWip (entries : List Entry) : Type 0 where
  pub few : length entries ≤ most_granules
  pub different : AreDifferent (granules_in entries)
  pub theirs : (i : ℕ) (entry : Entry) → slice_get entries i ≡ Some entry → IsOf entry.0 entry.1
