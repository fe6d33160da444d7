-- HOW MARKS ARE KEPT: for each unit, by its number, those of its rows by their positions and those of its values in their order.
use Rattle.std.specs.Prelude.{◌≡◌, ℕ, suc, ◌≤◌, List, [], ◌∷◌, ◌++◌, map, length}
use Rattle.std.specs.List.Sorted.{IsStrictlySortedBy}
use Rattle.std.specs.Map.{keys_of}
use Rattle.bf_base.specs.declared.granule.Granule.{Granule}
use Rattle.bf_base.specs.declared.granule.Place.{Place}
use Rattle.bf_base.specs.declared.granule.Place.TheVariants.{Row, Group}
use Rattle.bf_base.specs.declared.value.Value.{Value}
use Rattle.bf_sql.specs.migrations.Lazy.{DoneGranule}
use Rattle.bf_store.specs.States.{granule_cmp}
use Rattle.bf_store.specs.declared.unit_marks.UnitMarks.{UnitMarks}

-- a granule, and the number of the record that moved it
abbrev pub Numbered : Type 0
Numbered = Granule × ℕ

abbrev pub marks_of : List Numbered → List DoneGranule
marks_of es = map (λ (e : Numbered). record { granule = e.0; number = e.1 }) es

abbrev pub at_place : ℕ → Place → Granule
at_place unit place = record { unit = unit; place = place }

-- numbers, each under another name
abbrev pub named : {K L : Type 0} → (K → L) → List (K × ℕ) → List (L × ℕ)
named name es = map (λ e. (name e.0, e.1)) es

abbrev pub of_rows : ℕ → List (ℕ × ℕ) → List Numbered
of_rows unit es = named (λ position. at_place unit (Row position)) es

abbrev pub of_values : ℕ → List (List Value × ℕ) → List Numbered
of_values unit es = named (λ value. at_place unit (Group value)) es

-- all of a unit, those of rows before those of values; and all of units, counted from a unit on
abbrev pub of_unit : ℕ → UnitMarks → List Numbered
of_unit unit m = of_rows unit m.rows ++ of_values unit m.values.entries

abbrev pub from_unit : ℕ → List UnitMarks → List Numbered
from_unit unit [] = []
from_unit unit (m ∷ ms) = of_unit unit m ++ from_unit (suc unit) ms

-- the marks stand in the order of unit and place, are counted, and are of 256 units at most
pub record AreKept (units : List UnitMarks) (count : ℕ) : Type 0 where
  pub sorted : IsStrictlySortedBy granule_cmp (keys_of (from_unit 0 units))
  pub counted : count ≡ length (from_unit 0 units)
  pub few : length units ≤ 256
