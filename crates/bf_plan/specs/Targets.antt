-- Targets by their arms, as these are bound in a catalog.
use Rattle.std.specs.Prelude.{ℕ, ℤ, Bool, true, false, not, ◌&&◌, ◌||◌, List, [], ◌∷◌, ◌++◌, map, flat_map, filter_map, length, take, drop, Option, Some, None, unwrap_or, nat_eq, nat_lt, ◌==◌, is_some, if◌then◌else◌}
use Rattle.std.specs.List.{list_any, list_all, reduce, enumerate_from}
use Rattle.std.specs.Option.{option_eq}
use Rattle.std.specs.Ordering.{int_eq}
use lib.Pointwise.{pointwise}
use Rattle.bf_base.specs.declared.table.Admit.{Admit}
use Rattle.bf_base.specs.declared.table.Admit.TheVariants as admits
use Rattle.bf_base.specs.declared.table.Column.{Column}
use Rattle.bf_base.specs.declared.table.Table.{Table}
use Rattle.bf_base.specs.Lists.{same_name, with_before, when}
use Rattle.bf_base.specs.Tables.{same_kind}
use Rattle.bf_tree.specs.declared.migration.Item.{Item}
use Rattle.bf_tree.specs.declared.migration.Target.{Target}
use Rattle.bf_tree.specs.declared.reply.Refusal.{Refusal}
use Rattle.bf_tree.specs.declared.reply.Refusal.TheVariants as refusal
use Rattle.bf_sql.specs.Database.{Database}
use Rattle.bf_sql.specs.migrations.Targets.{either_admit, first_arm, item_name, target_table}
use Rattle.bf_plan.specs.Arms.{bound_arm}
use Rattle.bf_plan.specs.declared.arm.BoundArm.{BoundArm}
use Rattle.bf_plan.specs.declared.item.BoundItem.{BoundItem}
use Rattle.bf_tree.specs.declared.plan.UnitKind.{UnitKind}
use Rattle.bf_tree.specs.declared.plan.UnitKind.TheVariants.{Rows, Groups, Joins}
use Rattle.bf_plan.specs.declared.target.BoundTarget.{BoundTarget}

abbrev pub is_rows : UnitKind → Bool
is_rows Rows = true
is_rows Groups = false
is_rows Joins = false

-- the items of the first arm, and those that give its key
abbrev pub first_items : List BoundArm → List BoundItem
first_items [] = []
first_items (arm ∷ arms) = arm.items

abbrev pub first_key : List BoundArm → List (Option ℕ)
first_key [] = []
first_key (arm ∷ arms) = arm.key_items

-- an arm that has not the first one's count of items, or not its kinds
abbrev pub is_miscounted : List BoundItem → BoundArm → Bool
is_miscounted first arm = not (length arm.items == length first)

abbrev pub is_misfit : List BoundItem → BoundArm → Bool
is_misfit first arm = not (pointwise same_kind (map (λ i. i.kind) first) (map (λ i. i.kind) arm.items))

-- the items that may fail, counted from 1
abbrev pub failing : List ℕ → List BoundItem → List Refusal
failing name items = flat_map (λ p. when p.1.may_fail (refusal.MayFail name p.0)) (enumerate_from 1 items)

abbrev pub failing_in : List ℕ → BoundArm → List Refusal
failing_in name arm = failing name arm.items

-- an arm with a row for each row of a table, and a tag
abbrev pub is_tagged : BoundArm → Bool
is_tagged arm = is_rows arm.unit_kind && is_some arm.tag

abbrev pub tagged_by : List BoundArm → Option ℤ → Bool
tagged_by arms tag = list_any (λ a. option_eq int_eq tag a.tag) arms

abbrev pub are_tagged_apart : List BoundArm → Bool
are_tagged_apart arms = list_all (λ p. not (tagged_by p.0 p.1.tag)) (with_before arms)

abbrev pub has_one_key : List BoundArm → Bool
has_one_key arms = list_all (λ p. list_all (λ a. pointwise (option_eq nat_eq) a.key_items p.1.key_items) p.0) (with_before arms)

abbrev pub keeps_apart_by : List BoundArm → Bool
keeps_apart_by arms = list_all is_tagged arms && are_tagged_apart arms && has_one_key arms

abbrev pub gives_key : List BoundArm → Bool
gives_key arms = list_all (λ a. a.inherits_key) arms && (nat_lt (length arms) 2 || keeps_apart_by arms)

-- an item with the name of one before it
abbrev pub is_named : List Item → List ℕ → Bool
is_named items name = list_any (λ i. same_name name (item_name i)) items

abbrev pub name_objections : List Item → Item → List Refusal
name_objections before item = when (is_named before (item_name item)) (refusal.NameTwice (item_name item))

abbrev pub names_objections : List Item → List Refusal
names_objections items = flat_map (λ p. name_objections p.0 p.1) (with_before items)

-- what is wrong with a target behind its arms
abbrev pub objections_behind : Target → List BoundArm → List Refusal
objections_behind target arms =
    when (list_any (is_miscounted (first_items arms)) arms) refusal.WrongCount
    ++ when (list_any (is_misfit (first_items arms)) arms) refusal.TypeMismatch
    ++ names_objections (first_arm target.arms).items
    ++ flat_map (failing_in target.name) arms
    ++ when (not (gives_key arms)) (refusal.KeyNotInherited target.name)

-- what a column admits that one more arm fills, if it does
abbrev pub with_admit : Option Admit → Option Admit → Option Admit
with_admit None more = more
with_admit (Some a) None = Some a
with_admit (Some a) (Some b) = Some (either_admit a b)

abbrev pub admits_at : List BoundArm → ℕ → Admit
admits_at arms place = unwrap_or (reduce either_admit (flat_map (λ arm. take 1 (drop place (map (λ i. i.admits) arm.items))) arms)) admits.Int

-- the columns with the names of some items
abbrev pub columns_of : List Item → List BoundArm → List Column
columns_of items arms = map (λ p. record { name = item_name p.1; admits = admits_at arms p.0 }) (enumerate_from 0 items)

-- the place of the tag, where there are several arms
abbrev pub key_before : List BoundArm → List ℕ
key_before arms = if nat_lt (length arms) 2 then [] else 0 ∷ []

abbrev pub with_given : List ℕ → Option ℕ → List ℕ
with_given key None = key
with_given key (Some place) = key ++ place ∷ []

abbrev pub key_of_arms : List BoundArm → List ℕ
key_of_arms arms = key_before arms ++ filter_map (λ k. k) (first_key arms)

abbrev pub table_of_arms : Target → List BoundArm → Table
table_of_arms target arms = record { name = target.name; columns = columns_of (first_arm target.arms).items arms; key = key_of_arms arms }

-- a target in a database
abbrev pub bound_target : Database → Target → BoundTarget
bound_target db target = record { table = target_table db target; arms = map (bound_arm db) target.arms }
