-- The granules of a migration, and the part of the images that comes from each.
use Rattle.std.specs.Prelude.{ℕ, ◌+◌, ◌-◌, Bool, false, not, ◌&&◌, ◌==◌, nat_lt, nat_le, if◌then◌else◌, List, [], ◌++◌, map, flat_map, filter, find, length, slice_range, slice_get, Option, option_map, unwrap_or}
use Rattle.std.specs.List.{list_any, range_with_len, enumerate_from}
use Rattle.bf_base.specs.declared.value.Value.{Value}
use Rattle.bf_base.specs.declared.granule.Place.{Place}
use Rattle.bf_base.specs.declared.granule.Place.TheVariants.{Row, Group}
use Rattle.bf_base.specs.declared.granule.Granule.{Granule}
use Rattle.bf_base.specs.Values.{key_cmp}
use Rattle.bf_base.specs.Lists.{same_name, same_key, in_order}
use Rattle.bf_base.specs.Tables.{cell, key_of}
use Rattle.bf_tree.specs.declared.migration.Arm.{Arm}
use Rattle.bf_tree.specs.declared.migration.Target.{Target}
use Rattle.bf_tree.specs.declared.migration.Migrate.{Migrate}
use Rattle.bf_base.specs.Distinct.{distinct}
use Rattle.bf_tree.specs.declared.plan.ArmKind.{ArmKind}
use Rattle.bf_tree.specs.declared.plan.ArmKind.TheVariants.{ByFrom, ByJoin, ByPair, ByGroup}
use Rattle.bf_sql.specs.Database.{Database, table_rows}
use Rattle.bf_sql.specs.migrations.Targets.{arm_kind, width, on_places, names_of_join, target_table}
use Rattle.bf_sql.specs.migrations.MigrationObjections.{drivers_of, is_by_row}
use Rattle.bf_sql.specs.migrations.Images.{arm_rows, rows_of_join, group_value}

-- what a unit's granules stand for: the rows of a driving table, or the values of an arm's group or joined columns
pub data UnitForm : Type 0 where
  rows_unit : List ℕ → UnitForm
  values_unit : Target → Arm → UnitForm

-- the arms of a migration with their targets
abbrev pub arms_of : Migrate → List (Target × Arm)
arms_of m = flat_map (λ t. map (λ arm. (t, arm)) t.arms) m.targets

-- UNITS: one for each driver, and then one for each arm that goes by values
abbrev pub units_of : Database → Migrate → List UnitForm
units_of old m =
    map rows_unit (drivers_of old m)
    ++ map (λ p. values_unit p.0 p.1) (filter (λ p. not (is_by_row (arm_kind old p.1))) (arms_of m))

module _ (old : Database) (arm : Arm) where
  -- the joined columns of FROM, and of JOIN, in the order of ON
  abbrev pub left_places : List ℕ
  left_places = filter (λ p. nat_lt p (width old arm)) (on_places old arm)

  abbrev pub right_places : List ℕ
  right_places = filter (λ p. nat_le (width old arm) p) (on_places old arm)

  -- their values in a row of FROM, and in one of JOIN
  abbrev pub left_value : List Value → List Value
  left_value row = map (cell row) left_places

  abbrev pub right_value : List Value → List Value
  right_value row = map (λ p. cell row (p - width old arm)) right_places

  -- the values by which a sweep goes: of the rows of FROM, then of those of JOIN
  abbrev pub anchor_values : ArmKind → List (List Value)
  anchor_values ByFrom = []
  anchor_values ByJoin = []
  anchor_values ByGroup = map (group_value old arm) (table_rows old arm.from)
  anchor_values ByPair = map left_value (table_rows old arm.from) ++ map right_value (rows_of_join old arm.join)

  -- the rows of FROM and of JOIN that have a value
  abbrev pub from_with : ArmKind → List Value → List (List Value)
  from_with ByFrom value = []
  from_with ByJoin value = []
  from_with ByGroup value = filter (λ row. same_key value (group_value old arm row)) (table_rows old arm.from)
  from_with ByPair value = filter (λ row. same_key value (left_value row)) (table_rows old arm.from)

  abbrev pub join_with : List Value → List (List Value)
  join_with value = filter (λ row. same_key value (right_value row)) (rows_of_join old arm.join)

  -- the one row at a position of a table
  abbrev pub row_at : List ℕ → ℕ → List (List Value)
  row_at name at = slice_range (table_rows old name) at (at + 1)

  -- an arm's rows over the old tables with one row of their driver
  abbrev pub rows_driven : ArmKind → List ℕ → ℕ → List (List Value)
  rows_driven ByFrom driver at = if same_name arm.from driver then arm_rows old arm (row_at driver at) (rows_of_join old arm.join) else []
  rows_driven ByJoin driver at = if list_any (same_name driver) (names_of_join arm) then arm_rows old arm (table_rows old arm.from) (row_at driver at) else []
  rows_driven ByPair driver at = []
  rows_driven ByGroup driver at = []

-- ANCHORS: the places of a unit by which a sweep goes, where one may come more than once
abbrev pub anchors_of : Database → UnitForm → List Place
anchors_of old (rows_unit driver) = map Row (range_with_len 0 (length (table_rows old driver)))
anchors_of old (values_unit target arm) = map Group (anchor_values old arm (arm_kind old arm))

-- the places of a unit in order, each once
abbrev pub places_in : Database → UnitForm → List Place
places_in old (rows_unit driver) = map Row (range_with_len 0 (length (table_rows old driver)))
places_in old (values_unit target arm) = map Group (in_order key_cmp (λ v. v) (distinct same_key (anchor_values old arm (arm_kind old arm))))

abbrev pub granule : ℕ → Place → Granule
granule unit place = record { unit = unit; place = place }

-- GRANULES: the units in order, and the places of each in order
abbrev pub granules_of : Database → Migrate → List Granule
granules_of old m = flat_map (λ u. map (granule u.0) (places_in old u.1)) (enumerate_from 0 (units_of old m))

-- what the arms of a unit, and no others, give over the old tables cut down to a place's rows, each with its target
abbrev pub part_at : Database → Migrate → UnitForm → Place → List (Target × List Value)
part_at old m (rows_unit driver) (Row at) = flat_map (λ p. map (λ row. (p.0, row)) (rows_driven old p.1 (arm_kind old p.1) driver at)) (arms_of m)
part_at old m (rows_unit driver) (Group value) = []
part_at old m (values_unit target arm) (Row at) = []
part_at old m (values_unit target arm) (Group value) = map (λ row. (target, row)) (arm_rows old arm (from_with old arm (arm_kind old arm) value) (join_with old arm value))

-- PART of a granule
abbrev pub part_of : Database → Migrate → Granule → List (Target × List Value)
part_of old m g = unwrap_or (option_map (λ unit. part_at old m unit g.place) (slice_get (units_of old m) g.unit)) []

-- the rows that the table of a name has of a granule
abbrev pub part_in : Database → Migrate → List ℕ → Granule → List (List Value)
part_in old m name g = map (λ p. p.1) (filter (λ p. same_name p.0.name name) (part_of old m g))

-- OWNER: the granule whose part has a row of this target with this key, if there is one
abbrev pub owner_of : Database → Migrate → Target → List Value → Option Granule
owner_of old m target key = find (λ g. list_any (λ row. same_key key (key_of (target_table old target) row)) (part_in old m target.name g)) (granules_of old m)

abbrev pub same_place : Place → Place → Bool
same_place (Row m) (Row n) = m == n
same_place (Row m) (Group w) = false
same_place (Group v) (Row n) = false
same_place (Group v) (Group w) = same_key v w

abbrev pub same_granule : Granule → Granule → Bool
same_granule g h = g.unit == h.unit && same_place g.place h.place
