-- TRANSPOSED: what a condition on a new table says of the rows of an old one from which its rows come.
use Rattle.std.specs.Prelude.{◌≡◌, ℕ, ◌-◌, Bool, true, false, ◌&&◌, ◌==◌, if◌then◌else◌, List, [], ◌∷◌, filter, length, nat_le, nat_lt, Option, Some, None, IsTrue, slice_get}
use Rattle.std.specs.Option.{option_and_then}
use Rattle.bf_base.specs.declared.granule.Place.TheVariants.{Row}
use Rattle.bf_base.specs.declared.value.Value.{Value}
use Rattle.bf_base.specs.Tables.{cell}
use Rattle.bf_heap.specs.Heaps.{Entry}
use Rattle.bf_tree.specs.declared.compare.Compare.TheVariants.{Equal}
use Rattle.bf_tree.specs.declared.migration.Arm.{Arm}
use Rattle.bf_tree.specs.declared.plan.ArmKind.{ArmKind}
use Rattle.bf_tree.specs.declared.plan.ArmKind.TheVariants.{ByFrom, ByJoin, ByPair, ByGroup}
use Rattle.bf_tree.specs.declared.plan.PlacedItem.{PlacedItem}
use Rattle.bf_tree.specs.declared.plan.PlacedItem.TheVariants as placed
use Rattle.bf_tree.specs.declared.plan.Unit.{Unit as Planned}
use Rattle.bf_tree.specs.Evaluation.{holds_on}
use Rattle.bf_tree.specs.Trees.{literal, column, Cond, always, compared, both}
use Rattle.bf_sql.specs.migrations.Granules.{granule}
use Rattle.bf_sql.specs.migrations.Placed.{placed_arm}
use Rattle.bf_sql.specs.migrations.Targets.{arm_kind, width}
use Rattle.bf_image.specs.Migrations.{old_of}
use Rattle.bf_image.specs.BoundArms.{arm_at}
use Rattle.bf_image.specs.declared.migration.Frozen.{Frozen}
use Rattle.bf_image.specs.declared.migration.Migration.{Migration}
use Rattle.bf_transpose.specs.Scans.{IsDriverOf, gives}
use Rattle.bf_transpose.specs.declared.scan.Behind.{Behind}
use Rattle.bf_transpose.specs.declared.scan.Search.{Search}
use Rattle.bf_transpose.specs.declared.transposed.Copies.{Copies}

-- the place that an item copies, where it is a column, with or without AS
abbrev pub place_copied : PlacedItem → Option ℕ
place_copied (placed.Column place) = Some place
place_copied (placed.Value (column place)) = Some place
place_copied item = None

-- the column of an old table that the new table's column at a place copies; the old table's columns begin at a place of an arm's
-- rows, and are so many
abbrev pub column_copied : List PlacedItem → ℕ → ℕ → ℕ → Option ℕ
column_copied items first count at =
    option_and_then (λ place. if nat_le first place && nat_lt (place - first) count then Some (place - first) else None)
    (option_and_then place_copied (slice_get items at))

-- a condition that fixes a column to a value, or that is true of each row where there is no column
abbrev pub fixing : Option ℕ → Value → Cond ℕ
fixing None v = always
fixing (Some place) v = compared Equal (column place) (literal v)

-- TRANSPOSED: each conjunct `column = literal` or `literal = column` speaks of the old column that its column copies; one whose column
-- copies none of the old table, and any other conjunct, is true of each row
abbrev pub transposed : (ℕ → Option ℕ) → Cond ℕ → Cond ℕ
transposed copied (both c d) = both (transposed copied c) (transposed copied d)
transposed copied (compared Equal (column at) (literal v)) = fixing (copied at) v
transposed copied (compared Equal (literal v) (column at)) = fixing (copied at) v
transposed copied c = always

-- whether each conjunct is the one that is true of each row
abbrev pub is_always : Cond ℕ → Bool
is_always always = true
is_always (both c d) = is_always c && is_always d
is_always c = false

-- the place in an arm's rows at which the columns of its driver begin, by how many columns FROM has: those of JOIN stand behind them. An
-- arm by pairs or groups has no driver, and its place is not read
abbrev pub begins_at : ArmKind → ℕ → ℕ
begins_at ByFrom columns = 0
begins_at ByJoin columns = columns
begins_at ByPair columns = 0
begins_at ByGroup columns = 0

-- what the one arm of a target in a unit copies of the unit's driver
pub record AreCopies (m : Migration) (target : ℕ) (unit : Planned) (frozen : Frozen) (copies : Copies) : Type 0 where
  pub number : ℕ
  pub only : filter (λ pair. pair.0 == target) unit.arms ≡ (target, number) ∷ []
  pub arm : Arm
  pub at : arm_at m target number ≡ Some arm
  pub items : copies.items.now ≡ (placed_arm (old_of m) arm).items
  pub first : copies.first ≡ begins_at (arm_kind (old_of m) arm) (width (old_of m) arm)
  pub count : copies.count ≡ length frozen.table.columns

-- FOLLOWS: each row of the unit's driver from which a row of the target comes that satisfies the wanted condition satisfies this one
pub record IsTransposed (m : Migration) (target : ℕ) (wanted : Cond ℕ) (unit : ℕ) (frozen : Frozen) (part : Cond ℕ) : Type 0 where
  pub driver : IsDriverOf m unit frozen
  pub held : (at : ℕ) (entry : Entry) → slice_get frozen.rows at ≡ Some entry → IsTrue (gives m target wanted (granule unit (Row at))) → IsTrue (holds_on (cell entry.1) part)

-- BEHIND: a unit's driver with such a condition, for what a search wants
abbrev pub IsBehind : Search → ℕ → Behind → Type 0
IsBehind search unit behind = IsTransposed search.migration.now search.target search.cond.now unit behind.driver.now behind.cond
