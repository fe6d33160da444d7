-- A migration under way: its plan, and the old tables as they were at its flip.
use Rattle.std.specs.Prelude.{◌≡◌, ℕ, List, [], ◌++◌, map, find, length, Option, Some, None, option_map, unwrap_or, slice_get, slice_index_or, IsTrue}
use Rattle.std.specs.List.{AllByRecursion}
use Rattle.std.specs.Option.{option_and_then}
use Rattle.bf_base.specs.declared.value.Value.{Value}
use Rattle.bf_base.specs.declared.granule.Granule.{Granule}
use Rattle.bf_base.specs.Lists.{same_name, has}
use Rattle.bf_base.specs.Tables.{key_of}
use Rattle.bf_heap.specs.Heaps.{Entry}
use Rattle.bf_tree.specs.Limits.{is_narrow, IsNarrowMigrate}
use Rattle.bf_tree.specs.declared.migration.Arm.{Arm}
use Rattle.bf_tree.specs.declared.migration.Target.{Target}
use Rattle.bf_tree.specs.declared.plan.ArmKind.{ArmKind}
use Rattle.bf_tree.specs.declared.plan.ArmKind.TheVariants.{ByFrom, ByJoin, ByPair, ByGroup}
use Rattle.bf_sql.specs.Database.{Database, Stored, table_rows}
use Rattle.bf_sql.specs.migrations.Granules.{UnitForm, rows_unit, values_unit, units_of, anchors_of, granule, owner_of, part_of, left_value, right_value}
use Rattle.bf_sql.specs.migrations.Images.{group_value}
use Rattle.bf_sql.specs.migrations.Plans.{plan_made}
use Rattle.bf_sql.specs.migrations.Targets.{arm_kind}
use Rattle.bf_index.specs.ByValues.{by_value}
use Rattle.bf_image.specs.Lawful.{IsLawful}
use Rattle.bf_image.specs.declared.migration.Frozen.{Frozen}
use Rattle.bf_image.specs.declared.migration.Migration.{Migration}
use Rattle.bf_image.specs.declared.value_indexes.UnitIndex.{UnitIndex}

-- an old table with its rows
abbrev pub stored_of : Frozen → Stored
stored_of frozen = record { table = frozen.table; rows = map (λ e. e.1) frozen.rows }

-- the old tables as a database
abbrev pub old_of : Migration → Database
old_of m = record { number = 0; tables = map stored_of m.frozen; indexes = [] }

-- each row of an old table stands under its own key
abbrev pub HasOwnKeys : Frozen → Type 0
HasOwnKeys frozen = AllByRecursion (λ (e : Entry). e.0 ≡ key_of frozen.table e.1) frozen.rows

-- LAWFUL: the old tables are the sources of its MIGRATE, in the order of their names, each with its rows under their keys; the
-- migration is lawful over them, all is within the limits of the language, and its plan is the one that their catalog gives
pub record IsLawfulMigration (m : Migration) : Type 0 where
  pub sources : AllByRecursion (λ frozen. IsTrue (has same_name m.plan.sources frozen.table.name)) m.frozen
  pub tables : AllByRecursion (λ frozen. IsTrue (is_narrow frozen.table)) m.frozen
  pub keys : AllByRecursion HasOwnKeys m.frozen
  pub lawful : IsLawful (old_of m) m.plan.migrate
  pub narrow : IsNarrowMigrate m.plan.migrate
  pub planned : m.plan ≡ plan_made (old_of m) m.plan.migrate

-- the old table of a name
abbrev pub source_of : Migration → List ℕ → Option Frozen
source_of m name = find (λ frozen. same_name frozen.table.name name) m.frozen

-- the units of a migration, and one by its number
abbrev pub units_in : Migration → List UnitForm
units_in m = units_of (old_of m) m.plan.migrate

abbrev pub unit_at : Migration → ℕ → Option UnitForm
unit_at m number = slice_get (units_in m) number

-- a target by its number
abbrev pub target_at : Migration → ℕ → Target
target_at m number = slice_index_or m.plan.migrate.targets number (record { name = []; arms = [] })

-- the values by which an arm goes, of the rows of FROM
abbrev pub from_values : Database → Arm → ArmKind → List (List Value)
from_values old arm ByFrom = []
from_values old arm ByJoin = []
from_values old arm ByGroup = map (group_value old arm) (table_rows old arm.from)
from_values old arm ByPair = map (left_value old arm) (table_rows old arm.from)

-- VALUE INDEXES: for each unit that goes by values the rows of FROM, and those of JOIN where there is one, by their values;
-- none for a unit that goes by rows
abbrev pub unit_index : Database → UnitForm → Option UnitIndex
unit_index old (rows_unit driver) = None
unit_index old (values_unit target arm) = Some (record {
  from = by_value (from_values old arm (arm_kind old arm));
  join = option_map (λ j. by_value (map (right_value old arm) (table_rows old j.table))) arm.join;
})

abbrev pub value_indexes : Migration → List (Option UnitIndex)
value_indexes m = map (unit_index (old_of m)) (units_in m)

-- the rows of a granule, with the targets that their numbers name
abbrev pub ArePart : Migration → Granule → List (ℕ × List Value) → Type 0
ArePart m g rows = map (λ p. (target_at m p.0, p.1)) rows ≡ part_of (old_of m) m.plan.migrate g

-- BEHIND: some rows stay, and behind them stand rows of targets, by the numbers of these
pub record AreBehind (m : Migration) (added : List (Target × List Value)) (before after : List (ℕ × List Value)) : Type 0 where
  pub rows : List (ℕ × List Value)
  pub behind : after ≡ before ++ rows
  pub targets : map (λ p. (target_at m p.0, p.1)) rows ≡ added

-- behind some rows stand those of a granule
abbrev pub IsPartBehind : Migration → Granule → List (ℕ × List Value) → List (ℕ × List Value) → Type 0
IsPartBehind m g before after = AreBehind m (part_of (old_of m) m.plan.migrate g) before after

-- the granule from which the row of a new table with a key comes
abbrev pub owner_in : Migration → List ℕ → List Value → Option Granule
owner_in m name key =
    option_and_then (λ t. owner_of (old_of m) m.plan.migrate t key) (find (λ t. same_name t.name name) m.plan.migrate.targets)

-- how many anchors a unit has, and the granule at one
abbrev pub anchors_in : Migration → ℕ → ℕ
anchors_in m unit = unwrap_or (option_map (λ u. length (anchors_of (old_of m) u)) (unit_at m unit)) 0

abbrev pub anchored_at : Migration → ℕ → ℕ → Option Granule
anchored_at m unit anchor = option_and_then (λ u. option_map (granule unit) (slice_get (anchors_of (old_of m) u) anchor)) (unit_at m unit)
