-- What stands in the way of a MIGRATE before any row is looked at, in order. The first objection is told.
use Rattle.std.specs.Prelude.{ℕ, ℤ, Bool, true, false, not, ◌&&◌, ◌||◌, List, [], ◌∷◌, ◌++◌, map, flat_map, length, Option, Some, None, option_map, nat_eq, nat_lt, ◌==◌, is_some, if◌then◌else◌}
use Rattle.std.specs.List.{list_any, list_all, enumerate_from}
use Rattle.std.specs.Option.{option_eq}
use Rattle.std.specs.Ordering.{int_eq}
use lib.Pointwise.{pointwise}
use Rattle.bf_base.specs.Limits.{most_drivers}
use Rattle.bf_base.specs.declared.table.Kind.{Kind}
use Rattle.bf_base.specs.declared.table.Kind.TheVariants as kinds
use Rattle.bf_base.specs.declared.value.Value.TheVariants.{Int}
use Rattle.bf_base.specs.Lists.{same_name, has, with_before, when}
use Rattle.bf_base.specs.Tables.{same_kind}
use Rattle.bf_tree.specs.declared.raw.Ref.{Ref}
use Rattle.bf_tree.specs.Trees.{Expr, literal, column}
use Rattle.bf_tree.specs.declared.items.Aggregate.{Aggregate}
use Rattle.bf_tree.specs.declared.items.Aggregate.TheVariants.{Count, Sum, Min, Max}
use Rattle.bf_tree.specs.declared.migration.Item.{Item}
use Rattle.bf_tree.specs.declared.migration.Item.TheVariants as item
use Rattle.bf_tree.specs.declared.migration.Arm.{Arm}
use Rattle.bf_tree.specs.declared.migration.Target.{Target}
use Rattle.bf_tree.specs.declared.migration.Migrate.{Migrate}
use Rattle.bf_tree.specs.declared.reply.Refusal.{Refusal}
use Rattle.bf_tree.specs.declared.reply.Refusal.TheVariants as refusal
use Rattle.bf_base.specs.Distinct.{distinct}
use Rattle.bf_tree.specs.declared.plan.ArmKind.{ArmKind}
use Rattle.bf_tree.specs.declared.plan.ArmKind.TheVariants.{ByFrom, ByJoin, ByPair, ByGroup}
use Rattle.bf_sql.specs.Database.{Database, stored_at}
use Rattle.bf_sql.specs.Conditions.{condition_of}
use Rattle.bf_sql.specs.Scopes.{Scope, place_of, kind_in, kind_objections, twice_objections, ref_objections, expr_objections, cond_objections, total_objections}
use Rattle.bf_sql.specs.migrations.Extents.{may_fail}
use Rattle.bf_sql.specs.migrations.Targets.{names_of_join, equalities, arm_sources, arm_scope, width, arm_kind, plain_ref, is_total, item_name, key_items, extent_of_item, first_arm}

abbrev pub item_objections : Scope → Item → List Refusal
item_objections scope (item.Column ref) = ref_objections scope ref
item_objections scope (item.Named e name) = expr_objections scope e
item_objections scope (item.Total total name) = total_objections scope total

-- an equality between two columns: both in one table is no key, two kinds don't compare
abbrev pub on_objections : Database → Target → Arm → Ref × Ref → List Refusal
on_objections db target arm pair =
    let scope = arm_scope db arm in
    let left = nat_lt (place_of scope pair.0) (width db arm) in
    let right = nat_lt (place_of scope pair.1) (width db arm) in
    ref_objections scope pair.0 ++ ref_objections scope pair.1
    ++ when ((left && right) || not (left || right)) (refusal.KeyNotInherited target.name)
    ++ kind_objections scope (column pair.0) (kind_in scope (column pair.1))

-- GROUP BY: each ref, and whether an earlier one means the same column
abbrev pub group_objections : Scope → List Ref → List Refusal
group_objections scope group =
    flat_map (λ p. ref_objections scope p.1 ++ when (list_any (λ g. place_of scope g == place_of scope p.1) p.0) (refusal.NameTwice p.1.column)) (with_before group)

abbrev pub source_objections : Database → List ℕ → List Refusal
source_objections db name = when (not (is_some (stored_at db name))) (refusal.SourceUnknown name)

-- an arm: its tables, then items, ON, WHERE and GROUP BY from the left
abbrev pub arm_objections : Database → Target → Arm → List Refusal
arm_objections db target arm =
    flat_map (source_objections db) (arm_sources arm)
    ++ twice_objections (names_of_join arm) arm.from
    ++ flat_map (item_objections (arm_scope db arm)) arm.items
    ++ flat_map (on_objections db target arm) (equalities arm)
    ++ cond_objections (arm_scope db arm) (condition_of arm.cond)
    ++ group_objections (arm_scope db arm) arm.group

abbrev pub kind_of_total : Scope → Aggregate (Expr Ref) → Kind
kind_of_total scope Count = kinds.Int
kind_of_total scope (Sum e) = kinds.Int
kind_of_total scope (Min e) = kind_in scope e
kind_of_total scope (Max e) = kind_in scope e

abbrev pub kind_of_item : Scope → Item → Kind
kind_of_item scope (item.Column ref) = kind_in scope (column ref)
kind_of_item scope (item.Named e name) = kind_in scope e
kind_of_item scope (item.Total total name) = kind_of_total scope total

abbrev pub item_kinds : Database → Arm → List Kind
item_kinds db arm = map (kind_of_item (arm_scope db arm)) arm.items

-- a total, or a column of GROUP BY
abbrev pub is_grouped_item : Database → Arm → Item → Bool
is_grouped_item db arm i =
    let place = place_of (arm_scope db arm) in
    is_total i || list_any (λ g. option_eq nat_eq (Some (place g)) (option_map place (plain_ref i))) arm.group

abbrev pub is_by_row : ArmKind → Bool
is_by_row ByFrom = true
is_by_row ByJoin = true
is_by_row ByPair = false
is_by_row ByGroup = false

abbrev pub is_by_group : ArmKind → Bool
is_by_group ByFrom = false
is_by_group ByJoin = false
is_by_group ByPair = false
is_by_group ByGroup = true

-- whether an arm gives its key: every key column is an item, and totals stand in groups alone
abbrev pub inherits_key : Database → Arm → Bool
inherits_key db arm =
    list_all is_some (key_items db arm)
    && (if is_by_group (arm_kind db arm) then not (is_some arm.join) && list_all (is_grouped_item db arm) arm.items else list_all (λ i. not (is_total i)) arm.items)

-- the number that an arm's first item is, if it is one
abbrev pub tag_of : List Item → Option ℤ
tag_of (item.Named (literal (Int n)) name ∷ items) = Some n
tag_of items = None

-- whether the rows of several arms keep apart: by different tags, with one list of key items
abbrev pub keeps_apart : Database → List Arm → Bool
keeps_apart db arms =
    list_all (λ arm. is_by_row (arm_kind db arm) && is_some (tag_of arm.items)) arms
    && list_all (λ p. not (has (option_eq int_eq) (map (λ a. tag_of a.items) p.0) (tag_of p.1.items))) (with_before arms)
    && list_all (λ p. list_all (λ a. pointwise (option_eq nat_eq) (key_items db a) (key_items db p.1)) p.0) (with_before arms)

abbrev pub has_key : Database → Target → Bool
has_key db target = list_all (inherits_key db) target.arms && (nat_lt (length target.arms) 2 || keeps_apart db target.arms)

-- the items of an arm that may fail, counted from 1
abbrev pub failing_objections : Database → Target → Arm → List Refusal
failing_objections db target arm = flat_map (λ p. when (may_fail (extent_of_item (arm_scope db arm) p.1)) (refusal.MayFail target.name p.0)) (enumerate_from 1 arm.items)

-- a target, after its arms: counts, kinds, names, what may fail, the key
abbrev pub target_objections : Database → Target → List Refusal
target_objections db target =
    let first = first_arm target.arms in
    flat_map (arm_objections db target) target.arms
    ++ when (list_any (λ arm. not (length arm.items == length first.items)) target.arms) refusal.WrongCount
    ++ when (list_any (λ arm. not (pointwise same_kind (item_kinds db first) (item_kinds db arm))) target.arms) refusal.TypeMismatch
    ++ flat_map (λ p. twice_objections p.0 p.1) (with_before (map item_name first.items))
    ++ flat_map (failing_objections db target) target.arms
    ++ when (not (has_key db target)) (refusal.KeyNotInherited target.name)

-- SOURCES: the tables that FROM and JOIN name, each once, in order of first naming
abbrev pub sources_of : Migrate → List (List ℕ)
sources_of m = distinct same_name (flat_map (λ t. flat_map arm_sources t.arms) m.targets)

abbrev pub driver_by : ArmKind → Arm → List (List ℕ)
driver_by ByFrom arm = arm.from ∷ []
driver_by ByJoin arm = names_of_join arm
driver_by ByPair arm = []
driver_by ByGroup arm = []

-- the tables whose rows drive row arms, each once: one row unit for each
abbrev pub drivers_of : Database → Migrate → List (List ℕ)
drivers_of db m = distinct same_name (flat_map (λ t. flat_map (λ arm. driver_by (arm_kind db arm) arm) t.arms) m.targets)

-- a name that is a table which stays, or an earlier target
abbrev pub is_taken : Database → Migrate → List Target → Target → Bool
is_taken db m before target =
    (is_some (stored_at db target.name) && not (has same_name (sources_of m) target.name)) || list_any (λ t. same_name t.name target.name) before

abbrev pub taken_name_objections : Database → Migrate → List Refusal
taken_name_objections db m = flat_map (λ p. when (is_taken db m p.0 p.1) (refusal.TableExists p.1.name)) (with_before m.targets)

abbrev pub migrate_objections : Database → Migrate → List Refusal
migrate_objections db m =
    flat_map (target_objections db) m.targets
    ++ taken_name_objections db m
    ++ when (nat_lt most_drivers (length (drivers_of db m))) (refusal.UnitLimit (length (drivers_of db m)))
