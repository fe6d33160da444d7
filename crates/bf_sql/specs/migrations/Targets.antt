-- An arm's columns, how its rows come from old rows, and the table that a target becomes.
use Rattle.std.specs.Prelude.{ℕ, ◌+◌, max, Bool, true, false, ◌&&◌, List, [], ◌∷◌, ◌++◌, map, flat_map, filter_map, length, take, drop, Option, Some, None, option_map, unwrap_or, nat_eq, nat_lt, position, is_some, if◌then◌else◌}
use Rattle.std.specs.List.{list_all, reduce, enumerate_from}
use Rattle.std.specs.Option.{option_eq}
use Rattle.std.specs.Ordering.{int_eq}
use Rattle.bf_base.specs.declared.table.Admit.{Admit}
use Rattle.bf_base.specs.declared.table.Admit.TheVariants as admits
use Rattle.bf_base.specs.declared.table.Table.{Table}
use Rattle.bf_base.specs.Lists.{has}
use Rattle.bf_tree.specs.declared.raw.Ref.{Ref}
use Rattle.bf_tree.specs.Trees.{Expr, column}
use Rattle.bf_tree.specs.declared.migration.Item.{Item}
use Rattle.bf_tree.specs.declared.migration.Item.TheVariants as item
use Rattle.bf_tree.specs.declared.migration.Arm.{Arm}
use Rattle.bf_tree.specs.declared.migration.Target.{Target}
use Rattle.bf_tree.specs.declared.plan.ArmKind.{ArmKind}
use Rattle.bf_tree.specs.declared.plan.ArmKind.TheVariants.{ByFrom, ByJoin, ByPair, ByGroup}
use Rattle.bf_sql.specs.Database.{Database, table_at}
use Rattle.bf_sql.specs.Scopes.{Scope, scope_of, place_of, admitted_by}
use Rattle.bf_sql.specs.migrations.Extents.{Extent, extent_of, extent_of_total, admit_of_extent}

-- the JOIN table, if there is one
abbrev pub names_of_join : Arm → List (List ℕ)
names_of_join arm = unwrap_or (option_map (λ j. j.table ∷ []) arm.join) []

-- the pairs of ON
abbrev pub equalities : Arm → List (Ref × Ref)
equalities arm = unwrap_or (option_map (λ j. j.on) arm.join) []

-- the tables of an arm, FROM and then JOIN
abbrev pub arm_sources : Arm → List (List ℕ)
arm_sources arm = arm.from ∷ names_of_join arm

-- how an arm makes rows, by whether the arm has groups and a JOIN, and whether ON has the whole key of the JOIN table, and of FROM
abbrev pub kind_by : Bool → Bool → Bool → Bool → ArmKind
kind_by true joins on_join_key on_from_key = ByGroup
kind_by false false on_join_key on_from_key = ByFrom
kind_by false true true on_from_key = ByFrom
kind_by false true false true = ByJoin
kind_by false true false false = ByPair

module _ (db : Database) (arm : Arm) where
  -- the columns of FROM, then those of JOIN
  abbrev pub arm_scope : Scope
  arm_scope = flat_map (λ name. scope_of (table_at db name)) (arm_sources arm)

  -- how many columns FROM has
  abbrev pub width : ℕ
  width = length (table_at db arm.from).columns

  abbrev pub from_key : List ℕ
  from_key = (table_at db arm.from).key

  abbrev pub join_key : List ℕ
  join_key = flat_map (λ name. map (λ k. width + k) (table_at db name).key) (names_of_join arm)

  -- the places that ON names
  abbrev pub on_places : List ℕ
  on_places = flat_map (λ e. place_of arm_scope e.0 ∷ place_of arm_scope e.1 ∷ []) (equalities arm)

  abbrev pub arm_kind : ArmKind
  arm_kind = kind_by (nat_lt 0 (length arm.group)) (is_some arm.join) (list_all (has nat_eq on_places) join_key) (list_all (has nat_eq on_places) from_key)

  abbrev pub key_by : ArmKind → List ℕ
  key_by ByFrom = from_key
  key_by ByJoin = join_key
  key_by ByPair = from_key ++ join_key
  key_by ByGroup = map (place_of arm_scope) arm.group

  -- the places of the columns that tell an arm's rows apart
  abbrev pub arm_key : List ℕ
  arm_key = key_by arm_kind

abbrev pub plain_of : Expr Ref → Option Ref
plain_of (column ref) = Some ref
plain_of e = None

-- the ref that an item is, with or without AS
abbrev pub plain_ref : Item → Option Ref
plain_ref (item.Column ref) = Some ref
plain_ref (item.Named e name) = plain_of e
plain_ref (item.Total total name) = None

abbrev pub is_total : Item → Bool
is_total (item.Column ref) = false
is_total (item.Named e name) = false
is_total (item.Total total name) = true

abbrev pub item_name : Item → List ℕ
item_name (item.Column ref) = ref.column
item_name (item.Named e name) = name
item_name (item.Total total name) = name

-- the place of each item's column, where the item is plain
abbrev pub item_places : Database → Arm → List (Option ℕ)
item_places db arm = map (λ i. option_map (place_of (arm_scope db arm)) (plain_ref i)) arm.items

-- for each key column, the first item that gives it, if there is one
abbrev pub key_items : Database → Arm → List (Option ℕ)
key_items db arm = map (λ k. position (option_eq nat_eq (Some k)) (item_places db arm)) (arm_key db arm)

module _ (scope : Scope) where
  abbrev pub extent_of_item : Item → Extent
  extent_of_item (item.Column ref) = extent_of (admitted_by scope) (column ref)
  extent_of_item (item.Named e name) = extent_of (admitted_by scope) e
  extent_of_item (item.Total total name) = extent_of_total (admitted_by scope) total

  -- a plain column keeps its type and check
  abbrev pub item_admit : Item → Admit
  item_admit i = unwrap_or (option_map (admitted_by scope) (plain_ref i)) (admit_of_extent (extent_of_item i))

-- a column that several arms fill: a check only where all have the same one, and the greatest length
abbrev pub either_admit : Admit → Admit → Admit
either_admit (admits.Checked a b) (admits.Checked c d) = if int_eq a c && int_eq b d then admits.Checked a b else admits.Int
either_admit (admits.Varchar m) (admits.Varchar n) = admits.Varchar (max m n)
either_admit a b = admits.Int

abbrev pub first_arm : List Arm → Arm
first_arm [] = record { items = []; from = []; join = None; cond = None; group = [] }
first_arm (arm ∷ arms) = arm

-- what the arms make of the i-th column
abbrev pub column_admit : Database → Target → ℕ → Admit
column_admit db target i =
    unwrap_or (reduce either_admit (flat_map (λ arm. take 1 (drop i (map (item_admit (arm_scope db arm)) arm.items))) target.arms)) admits.Int

-- the key items, behind the tag where there are several arms
abbrev pub target_key : Database → Target → List (Option ℕ)
target_key db target =
    let keys = key_items db (first_arm target.arms) in
    if nat_lt 1 (length target.arms) then Some 0 ∷ keys else keys

-- the table that a target becomes: the names of the first arm's items, and the inherited key
abbrev pub target_table : Database → Target → Table
target_table db target = record {
  name = target.name;
  columns = map (λ p. record { name = item_name p.1; admits = column_admit db target p.0 }) (enumerate_from 0 (first_arm target.arms).items);
  key = filter_map (λ k. k) (target_key db target);
}
