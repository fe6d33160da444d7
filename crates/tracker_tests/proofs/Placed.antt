-- Granules of two units, one by rows and one by keys, have their places there.
use Rattle.std.proofs.Common.{◌≡◌, ℕ, ◌<◌, List, [], ◌∷◌, map, sym, subst}
use Rattle.bf_base.specs.declared.granule.Granule.{Granule}
use Rattle.bf_base.specs.declared.granule.Place.TheVariants.{Row, Group}
use Rattle.bf_base.specs.declared.value.Value.{Value}
use Rattle.bf_trackers.specs.Units.{HasPlace, IsPlaceOf, shape_of}
use Rattle.bf_trackers.specs.declared.units.Shape.TheVariants.{Rows, Keys}
use Rattle.bf_trackers.specs.declared.units.UnitTracker.{UnitTracker}

pub row_place : (units : List UnitTracker) (rows at : ℕ) → map shape_of units ≡ Rows rows ∷ Keys ∷ [] → at < rows → HasPlace units (record { unit = 0; place = Row at })
row_place [] rows at e less = absurd cc
row_place (u ∷ us) rows at e less = let is : shape_of u ≡ Rows rows = cc in subst (λ s. IsPlaceOf (Row at) s) (sym is) less

pub key_place : (units : List UnitTracker) (rows : ℕ) (key : List Value) → map shape_of units ≡ Rows rows ∷ Keys ∷ [] → HasPlace units (record { unit = 1; place = Group key })
key_place [] rows key e = absurd cc
key_place (u ∷ []) rows key e = absurd cc
key_place (u ∷ v ∷ us) rows key e = let is : shape_of v ≡ Keys = cc in subst (λ s. IsPlaceOf (Group key) s) (sym is) tt

-- the same, of a granule that is the value's
pub value_place : (units : List UnitTracker) (rows : ℕ) (key : List Value) (granule : Granule) → granule ≡ record { unit = 1; place = Group key } → map shape_of units ≡ Rows rows ∷ Keys ∷ [] → HasPlace units granule
value_place units rows key granule is e = subst (λ (g : Granule). HasPlace units g) (sym is) (key_place units rows key e)
