-- SCANS: the granules of a migration unit by unit, and those that give a row which satisfies a condition.
use Rattle.std.specs.Prelude.{◌≡◌, ℕ, ◌<◌, Bool, false, ◌&&◌, ◌==◌, List, [], ◌++◌, length, map, nat_lt, Option, Some, None, slice_get, option_map, unwrap_or, IsTrue}
use Rattle.std.specs.List.{list_any, range_with_len}
use Rattle.std.specs.Option.{option_and_then}
use Rattle.bf_base.specs.declared.granule.Granule.{Granule}
use Rattle.bf_base.specs.declared.granule.Place.TheVariants.{Group, Row}
use Rattle.bf_base.specs.declared.value.Value.{Value}
use Rattle.bf_base.specs.Tables.{cell}
use Rattle.bf_heap.specs.KeyRanges.{is_within}
use Rattle.bf_heap.specs.declared.key_range.KeyRange.{KeyRange}
use Rattle.bf_tree.specs.Evaluation.{holds_on}
use Rattle.bf_tree.specs.Trees.{Cond}
use Rattle.bf_sql.specs.migrations.Granules.{granule, part_in, places_in, rows_unit}
use Rattle.bf_sql.specs.migrations.Targets.{target_table}
use Rattle.bf_access.specs.Ranges.{key_range_of}
use Rattle.bf_index.specs.ByValues.{Valued, value_of}
use Rattle.bf_image.specs.FrozenUnits.{IsUnitIn}
use Rattle.bf_image.specs.Migrations.{IsLawfulMigration, old_of, source_of, target_at, unit_at, value_indexes}
use Rattle.bf_image.specs.declared.frozen_unit.FrozenUnit.{FrozenUnit}
use Rattle.bf_image.specs.declared.migration.Frozen.{Frozen}
use Rattle.bf_image.specs.declared.migration.Migration.{Migration}
use Rattle.bf_image.specs.declared.value_indexes.UnitIndex.{UnitIndex}
use Rattle.bf_transpose.specs.InOrder.{values_in}
use Rattle.bf_transpose.specs.KeysBehind.{with_key_behind}
use Rattle.bf_transpose.specs.declared.scan.Search.{Search}

-- the granules of a unit at some positions, at the first ones, and at some values
abbrev pub granules_at : ℕ → List ℕ → List Granule
granules_at unit positions = map (λ at. granule unit (Row at)) positions

abbrev pub row_granules : ℕ → ℕ → List Granule
row_granules unit count = granules_at unit (range_with_len 0 count)

abbrev pub value_granules : ℕ → List (List Value) → List Granule
value_granules unit values = map (λ value. granule unit (Group value)) values

-- the values of an index, of FROM and of JOIN where there is one
abbrev pub values_of_both : List Valued → Option (List Valued) → List (List Value)
values_of_both from None = map value_of from
values_of_both from (Some join) = values_in (map value_of from ++ map value_of join)

abbrev pub values_indexed : UnitIndex → List (List Value)
values_indexed index = values_of_both index.from index.join

module _ (m : Migration) where
  -- the granules of a unit by its number
  abbrev pub granules_in : ℕ → List Granule
  granules_in unit = unwrap_or (option_map (λ form. map (granule unit) (places_in (old_of m) form)) (unit_at m unit)) []

  module _ (target : ℕ) where
    -- whether a unit has an arm of a target
    abbrev pub has_arm : ℕ → Bool
    has_arm unit = unwrap_or (option_map (λ planned. list_any (λ arm. arm.0 == target) planned.arms) (slice_get m.plan.units unit)) false

    -- whether a row, with the number of its target, is of the target and satisfies a condition
    abbrev pub is_sought : Cond ℕ → ℕ × List Value → Bool
    is_sought cond p = p.0 == target && holds_on (cell p.1) cond

    -- whether a granule gives such a row
    abbrev pub gives : Cond ℕ → Granule → Bool
    gives cond g = list_any (λ row. holds_on (cell row) cond) (part_in (old_of m) m.plan.migrate (target_at m target).name g)

-- the unit of a number is there with its old tables, or has no arm of a target
abbrev pub IsUnitFor : Migration → ℕ → ℕ → Option FrozenUnit → Type 0
IsUnitFor m target number (Some unit) = IsUnitIn m unit × (unit.number ≡ number)
IsUnitFor m target number None = has_arm m target number ≡ false

-- at each number of a list the unit stands so
abbrev pub AreUnitsFor : Migration → ℕ → List (Option FrozenUnit) → Type 0
AreUnitsFor m target units = (number : ℕ) → IsUnitFor m target number (option_and_then (λ unit. unit) (slice_get units number))

-- the index of a unit that goes by values
abbrev pub IsIndexOf : Migration → ℕ → UnitIndex → Type 0
IsIndexOf m unit index = Some index ≡ option_and_then (λ index. index) (slice_get (value_indexes m) unit)

-- the old table whose rows a unit goes by
pub record IsDriverOf (m : Migration) (unit : ℕ) (frozen : Frozen) : Type 0 where
  pub driver : List ℕ
  pub form : unit_at m unit ≡ Some (rows_unit driver)
  pub found : source_of m driver ≡ Some frozen

-- the keys, of rows of a unit's driver from which rows of a target come, or of a target that goes by groups, that a condition on it leaves
abbrev pub range_of : Migration → ℕ → Cond ℕ → KeyRange
range_of m target cond =
    let t = target_at m target in
    key_range_of (with_key_behind (nat_lt 1 (length t.arms)) (target_table (old_of m) t)) cond

-- a search of a lawful migration, with its indexes, for rows of a target that it has, with the keys that its condition leaves and the units of the
-- target
pub record IsSearch (search : Search) : Type 0 where
  pub lawful : IsLawfulMigration search.migration.now
  pub indexed : search.indexes.now ≡ value_indexes search.migration.now
  pub there : search.target < length search.migration.now.plan.migrate.targets
  pub range : search.range.now ≡ range_of search.migration.now search.target search.cond.now
  pub units : AreUnitsFor search.migration.now search.target search.units.items

-- WITHIN: each of some values by which a unit goes that gives a row which is sought is in a range
abbrev pub AreWithin : Search → ℕ → List Valued → KeyRange → Type 0
AreWithin search unit values range =
    (at : ℕ) (entry : Valued) → slice_get values at ≡ Some entry
    → IsTrue (gives search.migration.now search.target search.cond.now (granule unit (Group (value_of entry)))) → IsTrue (is_within range (value_of entry))
