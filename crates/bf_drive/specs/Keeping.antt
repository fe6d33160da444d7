-- How a list is kept: in places of which each that is taken has a value.
use Rattle.std.specs.Prelude.{◌≡◌, List, [], ◌∷◌, Option, Some, None, map}
use Rattle.smallvec.specs.SmallVec.{SmallVec}
use Rattle.bf_drive.specs.Lists.{most_granules}

module _ {T : Type 0} where
  -- the values in places
  abbrev pub values_in : List (Option T) → List T
  values_in [] = []
  values_in (None ∷ places) = values_in places
  values_in (Some value ∷ places) = value ∷ values_in places

  -- no place that is taken is without a value, and there are as many places as a list may have values
  pub record AreKept (places : SmallVec (Option T)) : Type 0 where
    pub full : places.items ≡ map Some (values_in places.items)
    pub room : places.capacity ≡ most_granules
