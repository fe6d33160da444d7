-- Where a row with a key can come from, and which rows a row can meet, by look-ups: no part is computed.
use Rattle.std.specs.Prelude.{ℕ, ◌+◌, ◌-◌, nat_eq, slice_get, Some, None, Bool, if◌then◌else◌, List, [], ◌∷◌, map, flat_map, find, length, take, drop, position, nat_lt, Option, option_map}
use Rattle.std.specs.List.{list_any, enumerate_from}
use Rattle.std.specs.Option.{option_to_list}
use Rattle.bf_base.specs.declared.value.Value.{Value}
use Rattle.bf_base.specs.declared.granule.Place.{Place}
use Rattle.bf_base.specs.declared.granule.Place.TheVariants.{Row, Group}
use Rattle.bf_base.specs.declared.granule.Granule.{Granule}
use Rattle.bf_base.specs.Lists.{same_name, same_key}
use Rattle.bf_base.specs.Tables.{cell, key_of}
use Rattle.bf_tree.specs.declared.raw.Ref.{Ref}
use Rattle.bf_tree.specs.declared.migration.Arm.{Arm}
use Rattle.bf_tree.specs.declared.migration.Target.{Target}
use Rattle.bf_tree.specs.declared.migration.Migrate.{Migrate}
use Rattle.bf_tree.specs.declared.plan.ArmKind.{ArmKind}
use Rattle.bf_tree.specs.declared.plan.ArmKind.TheVariants.{ByFrom, ByJoin, ByPair, ByGroup}
use Rattle.bf_sql.specs.Database.{Database, table_at, table_rows}
use Rattle.bf_sql.specs.Scopes.{Scope, place_of}
use Rattle.bf_sql.specs.migrations.Targets.{arm_kind, arm_scope, width, equalities, from_key, join_key, names_of_join}
use Rattle.bf_sql.specs.migrations.Images.{arm_rows, group_value, rows_of_join}
use Rattle.bf_sql.specs.migrations.Granules.{UnitForm, rows_unit, values_unit, units_of, granule, left_value, right_value, row_at}

-- a key without the tag of several arms
abbrev pub behind_tag : Target → List Value → List Value
behind_tag t key = if nat_lt 1 (length t.arms) then drop 1 key else key

-- whether a row of a table has a key
abbrev pub has_the_key : Database → List ℕ → List Value → List Value → Bool
has_the_key old name key row = same_key key (key_of (table_at old name) row)

-- the row of a table with a key, if there is one
abbrev pub row_with : Database → List ℕ → List Value → Option (List Value)
row_with old name key = find (has_the_key old name key) (table_rows old name)

-- the value from which a row of an arm with a key can come: the key itself, or the joined value of the FROM row whose key it begins with
abbrev pub values_by : Database → Arm → List Value → ArmKind → List (List Value)
values_by old arm key ByFrom = []
values_by old arm key ByJoin = []
values_by old arm key ByGroup = key ∷ []
values_by old arm key ByPair =
    option_to_list (option_map (left_value old arm) (row_with old arm.from (take (length (from_key old arm)) key)))

-- the place of a unit from which a row of a target with a key can come, if there is one
abbrev pub places_by : Database → Target → List Value → UnitForm → List Place
places_by old t key (rows_unit driver) =
    option_to_list (option_map Row (position (has_the_key old driver (behind_tag t key)) (table_rows old driver)))
places_by old t key (values_unit target arm) =
    if same_name target.name t.name then map Group (values_by old arm key (arm_kind old arm)) else []

-- CANDIDATES for the owner of a key, one of each unit at most
abbrev pub candidates : Database → Migrate → Target → List Value → List Granule
candidates old m t key = flat_map (λ u. map (granule u.0) (places_by old t key u.1)) (enumerate_from 0 (units_of old m))

-- the column that the first equality with a column makes it equal to
abbrev pub partner : Scope → List (Ref × Ref) → ℕ → ℕ
partner scope [] p = p
partner scope (e ∷ on) p =
    if nat_eq p (place_of scope e.0) then place_of scope e.1
    else (if nat_eq p (place_of scope e.1) then place_of scope e.0 else partner scope on p)

-- where ON has JOIN's whole key: the key of the one row of JOIN that a row of FROM can meet
abbrev pub join_met : Database → Arm → List Value → List Value
join_met old arm r = map (λ p. cell r (partner (arm_scope old arm) (equalities arm) p)) (join_key old arm)

-- where ON has FROM's whole key: the key of the one row of FROM that a row of JOIN can meet
abbrev pub from_met : Database → Arm → List Value → List Value
from_met old arm s = map (λ p. cell s (partner (arm_scope old arm) (equalities arm) p - width old arm)) (from_key old arm)

-- the row of JOIN that a row of FROM can meet, if there is one
abbrev pub join_rows_met : Database → Arm → List Value → List (List Value)
join_rows_met old arm r = flat_map (λ name. option_to_list (row_with old name (join_met old arm r))) (names_of_join arm)

-- the row of FROM that a row of JOIN can meet, if there is one
abbrev pub from_rows_met : Database → Arm → List Value → List (List Value)
from_rows_met old arm s = option_to_list (row_with old arm.from (from_met old arm s))

-- an arm's rows of one row of its driver, with the one row that it can meet in place of the whole other table
abbrev pub rows_met : Database → Arm → ArmKind → List ℕ → ℕ → List (List Value)
rows_met old arm ByFrom driver at =
    if same_name arm.from driver then flat_map (λ r. arm_rows old arm (r ∷ []) (join_rows_met old arm r)) (row_at old arm driver at) else []
rows_met old arm ByJoin driver at =
    if list_any (same_name driver) (names_of_join arm)
    then flat_map (λ s. arm_rows old arm (from_rows_met old arm s) (s ∷ [])) (row_at old arm driver at) else []
rows_met old arm ByPair driver at = []
rows_met old arm ByGroup driver at = []

-- how many anchors a unit has
abbrev pub anchor_count_by : Database → Arm → ArmKind → ℕ
anchor_count_by old arm ByFrom = 0
anchor_count_by old arm ByJoin = 0
anchor_count_by old arm ByGroup = length (table_rows old arm.from)
anchor_count_by old arm ByPair = length (table_rows old arm.from) + length (rows_of_join old arm.join)

abbrev pub anchor_count : Database → UnitForm → ℕ
anchor_count old (rows_unit driver) = length (table_rows old driver)
anchor_count old (values_unit target arm) = anchor_count_by old arm (arm_kind old arm)

-- the value of the row that an anchor goes by: those of FROM, then those of JOIN
abbrev pub anchor_value_by : Database → Arm → ArmKind → ℕ → Option (List Value)
anchor_value_by old arm ByFrom at = None
anchor_value_by old arm ByJoin at = None
anchor_value_by old arm ByGroup at = option_map (group_value old arm) (slice_get (table_rows old arm.from) at)
anchor_value_by old arm ByPair at =
    let rows = table_rows old arm.from in
    if nat_lt at (length rows) then option_map (left_value old arm) (slice_get rows at)
    else option_map (right_value old arm) (slice_get (rows_of_join old arm.join) (at - length rows))

-- the place of each anchor by its number
abbrev pub anchor_place : Database → UnitForm → ℕ → Option Place
anchor_place old (rows_unit driver) at = if nat_lt at (length (table_rows old driver)) then Some (Row at) else None
anchor_place old (values_unit target arm) at = option_map Group (anchor_value_by old arm (arm_kind old arm) at)
