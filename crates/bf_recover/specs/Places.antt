-- The places of a unit: values that its old rows have, or positions below their number.
use Rattle.std.specs.Prelude.{ℕ, ◌==◌, ◌||◌, Bool, false, not, List, length, nat_lt}
use Rattle.std.specs.Option.{option_map_or}
use Rattle.bf_base.specs.declared.granule.Place.{Place}
use Rattle.bf_base.specs.declared.granule.Place.TheVariants.{Row, Group}
use Rattle.bf_base.specs.declared.value.Value.{Value}
use Rattle.bf_index.specs.ByValues.{Valued, positions_under}
use Rattle.bf_image.specs.declared.value_indexes.UnitIndex.{UnitIndex}

-- some row stands under a value
abbrev pub has_rows : List Value → List Valued → Bool
has_rows value index = not (length (positions_under index value) == 0)

-- of FROM, or of JOIN where there is one
abbrev pub has_value : UnitIndex → List Value → Bool
has_value index value = has_rows value index.from || option_map_or (has_rows value) index.join false

-- a place of a unit that goes by values, and of one that goes by rows
abbrev pub is_value_of : UnitIndex → Place → Bool
is_value_of index (Group value) = has_value index value
is_value_of index (Row position) = false

abbrev pub is_row_below : ℕ → Place → Bool
is_row_below count (Row position) = nat_lt position count
is_row_below count (Group value) = false
