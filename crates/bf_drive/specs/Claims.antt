-- Which granule a claim is of.
use Rattle.std.specs.Prelude.{◌≡◌, pos, List, [], ◌∷◌}
use Rattle.bf_base.specs.declared.value.Value.{Value}
use Rattle.bf_base.specs.declared.value.Value.TheVariants.{Int}
use Rattle.bf_base.specs.declared.granule.Place.{Place}
use Rattle.bf_base.specs.declared.granule.Place.TheVariants.{Row as AtRow, Group as AtKey}
use Rattle.bf_base.specs.declared.granule.Granule.{Granule}
use Rattle.bf_drive.specs.declared.claim.Claim.{Claim}
use Rattle.bf_drive.specs.declared.claim.Claim.TheVariants.{Row, Group}

-- the key by which a stripe names a place: for a row's, the one number of its position
abbrev pub key_of : Place → List Value
key_of (AtRow position) = Int (pos position) ∷ []
key_of (AtKey key) = key

-- a claim is of a granule: of its position, or of its key
abbrev pub IsOf : Granule → Claim → Type 0
IsOf granule (Row claim) = granule.place ≡ AtRow claim.at
IsOf granule (Group claim) = claim.key ≡ key_of granule.place
