-- The old rows with a value, and what an arm makes of them.
use Rattle.std.proofs.Common.{◌≡◌, ℕ, zero, suc, Bool, not, List, [], ◌∷◌, map, filter, Option, Some, None, refl, sym, ap, ap₂, ◌∙◌, subst, arith}
use Rattle.std.specs.Prelude.{option_map, slice_get, unwrap_or}
use Rattle.std.specs.List.{AllByRecursion, Contains, flat_map}
use Rattle.std.specs.Option.{option_to_list}
use Rattle.bf_base.specs.declared.value.Value.{Value}
use Rattle.bf_base.specs.Lists.{same_key}
use Rattle.bf_heap.specs.Heaps.{Entry}
use Rattle.bf_tree.specs.declared.migration.Arm.{Arm}
use Rattle.bf_tree.specs.declared.migration.Join.{Join}
use Rattle.bf_tree.specs.declared.migration.Migrate.{Migrate}
use Rattle.bf_tree.specs.declared.migration.Target.{Target}
use Rattle.bf_tree.specs.declared.plan.ArmKind.{ArmKind}
use Rattle.bf_tree.specs.declared.plan.ArmKind.TheVariants.{ByFrom, ByJoin, ByPair, ByGroup}
use Rattle.bf_sql.specs.Database.{Database, table_rows}
use Rattle.bf_sql.specs.migrations.Granules.{UnitForm, rows_unit, values_unit, arms_of, units_of, from_with, join_with, left_value, right_value}
use Rattle.bf_sql.specs.migrations.Images.{group_value, rows_of_join}
use Rattle.bf_sql.specs.migrations.MigrationObjections.{drivers_of, is_by_row}
use Rattle.bf_sql.specs.migrations.Placed.{placed_arm}
use Rattle.bf_sql.specs.migrations.Plans.{numbered_arms}
use Rattle.bf_sql.specs.migrations.Targets.{arm_kind}
use Rattle.bf_image.specs.ArmRows.{AreOfOne, CanMake}
use Rattle.bf_image.specs.BoundArms.{IsFrozenArm, IsJoined, entries_of}
use Rattle.bf_index.specs.ByValues.{Valued, by_value, positions_under}
use Rattle.bf_image.specs.Lawful.{IsLawful}
use Rattle.bf_image.specs.Migrations.{from_values, old_of, unit_at, unit_index, units_in}
use Rattle.bf_image.specs.PlannedUnits.{target_named}
use Rattle.bf_image.specs.declared.arms.FrozenArm.{FrozenArm}
use Rattle.bf_image.specs.declared.migration.Frozen.{Frozen}
use Rattle.bf_image.specs.declared.migration.Migration.{Migration}
use Rattle.bf_image.specs.declared.value_indexes.UnitIndex.{UnitIndex}
use Rattle.bf_index.proofs.Indexed.{rows_are, under_is}
use Rattle.bf_image.proofs.making.CanMake.{can_make, can_make_of_part, part_of_one}
use Rattle.bf_image.proofs.parting.OldTables.{rows_found}
use Rattle.bf_image.proofs.planning.Driven.{arm_among, named_from_numbered, target_among}
use Rattle.bf_image.proofs.planning.Numbered.{IsNumbered, all_numbered, arms_by_numbers, each_append, each_kept, each_of_map, named_by_numbers, without_number}

-- the rows at some positions
abbrev pub rows_at : List (List Value) → List ℕ → List (List Value)
rows_at rows positions = flat_map (λ at. option_to_list (slice_get rows at)) positions

-- those under a value are the ones that have it
rows_under : (rows : List (List Value)) (made : List Value → List Value) (value : List Value) → rows_at rows (positions_under (by_value (map made rows)) value) ≡ filter (λ row. same_key value (made row)) rows
rows_under rows made value = ap (rows_at rows) (under_is (map made rows) value) ∙ rows_are made value rows

module _ (m : Migration) (target : ℕ) (arm : Arm) (bound : FrozenArm) (frozen : IsFrozenArm m target arm bound) (of : Target) (index : UnitIndex) (is : unit_index (old_of m) (values_unit of arm) ≡ Some index) (value : List Value) where
  abbrev old : Database
  old = old_of m

  abbrev here : UnitIndex
  here = record { from = by_value (from_values old arm (arm_kind old arm)); join = option_map (λ j. by_value (map (right_value old arm) (table_rows old j.table))) arm.join }

  same_index : here ≡ index
  same_index = let e : Some here ≡ Some index = is in cc

  abbrev all_from : List (List Value)
  all_from = table_rows old arm.from

  from_by : (kind : ArmKind) → rows_at all_from (positions_under (by_value (from_values old arm kind)) value) ≡ from_with old arm kind value
  from_by ByFrom = refl
  from_by ByJoin = refl
  from_by ByPair = rows_under all_from (left_value old arm) value
  from_by ByGroup = rows_under all_from (group_value old arm) value

  -- the rows of FROM with a value
  pub from_rows_with : rows_at (map (λ (e : Entry). e.1) bound.from.now.rows) (positions_under index.from value) ≡ from_with old arm (arm_kind old arm) value
  from_rows_with =
      ap₂ (λ rows (valued : List Valued). rows_at rows (positions_under valued value)) (sym (rows_found m arm.from bound.from.now frozen.from)) (sym (ap (λ (i : UnitIndex). i.from) same_index))
      ∙ from_by (arm_kind old arm)

  abbrev Indexed : Type 0
  Indexed = Option (List Valued)

  abbrev index_of_join : Option Join → Indexed
  index_of_join o = option_map (λ j. by_value (map (right_value old arm) (table_rows old j.table))) o

  join_by : (o : Option Join) (joined : Option Frozen) → IsJoined m o joined → (table : Frozen) (valued : List Valued) → joined ≡ Some table → index_of_join o ≡ Some valued
      → rows_at (map (λ (e : Entry). e.1) table.rows) (positions_under valued value) ≡ filter (λ row. same_key value (right_value old arm row)) (rows_of_join old o)
  join_by None joined same table valued there indexed = absurd cc
  join_by (Some j) None same table valued there indexed = absurd same
  join_by (Some j) (Some found) same table valued there indexed =
      let one : found ≡ table = cc in
      let own : by_value (map (right_value old arm) (table_rows old j.table)) ≡ valued = cc in
      ap₂ (λ rows (valued : List Valued). rows_at rows (positions_under valued value)) (sym (rows_found m j.table table (same ∙ ap Some one))) (sym own)
      ∙ rows_under (table_rows old j.table) (right_value old arm) value

  -- those of JOIN
  pub join_rows_with : (table : Frozen) (valued : List Valued) → option_map (λ j. j.now) bound.join ≡ Some table → index.join ≡ Some valued
      → rows_at (map (λ (e : Entry). e.1) table.rows) (positions_under valued value) ≡ join_with old arm value
  join_rows_with table valued there indexed =
      join_by arm.join (option_map (λ j. j.now) bound.join) frozen.join table valued there (ap (λ (i : UnitIndex). i.join) same_index ∙ indexed)

  all_by : (o : Option Join) (joined : Option Frozen) → IsJoined m o joined
      → rows_at (map (λ (e : Entry). e.1) (entries_of joined)) (unwrap_or (option_map (λ valued. positions_under valued value) (index_of_join o)) []) ≡ filter (λ row. same_key value (right_value old arm row)) (rows_of_join old o)
  all_by None None same = refl
  all_by None (Some found) same = absurd same
  all_by (Some j) None same = absurd same
  all_by (Some j) (Some found) same = join_by (Some j) (Some found) same found (by_value (map (right_value old arm) (table_rows old j.table))) refl refl

  -- and where there is no JOIN, none
  pub joined_rows_with : rows_at (map (λ (e : Entry). e.1) (entries_of (option_map (λ j. j.now) bound.join))) (unwrap_or (option_map (λ valued. positions_under valued value) index.join) []) ≡ join_with old arm value
  joined_rows_with =
      ap (λ (i : UnitIndex). rows_at (map (λ (e : Entry). e.1) (entries_of (option_map (λ j. j.now) bound.join))) (unwrap_or (option_map (λ valued. positions_under valued value) i.join) [])) (sym same_index)
      ∙ all_by arm.join (option_map (λ j. j.now) bound.join) frozen.join

-- AN ARM OF A TARGET: both are the migration's
pub record IsOf (m : Migrate) (t : Target) (arm : Arm) : Type 0 where
  pub among : Contains m.targets t
  pub its : Contains t.arms arm

abbrev IsOfMigrate : Migrate → UnitForm → Type 0
IsOfMigrate m (rows_unit driver) = Unit {0}
IsOfMigrate m (values_unit t arm) = IsOf m t arm

each_made : {X Y : Type 0} (P : Y → Type 0) (f : X → Y) → ((x : X) → P (f x)) → (xs : List X) → AllByRecursion P (map f xs)
each_made P f one [] = tt
each_made P f one (x ∷ xs) = (one x, each_made P f one xs)

-- a unit by values stands for an arm of the migration
all_of_migrate : (old : Database) (m : Migrate) → AllByRecursion (IsOfMigrate m) (units_of old m)
all_of_migrate old m =
    let by_values : Target × Arm → Bool = λ p. not (is_by_row (arm_kind old p.1)) in
    each_append (IsOfMigrate m) (map rows_unit (drivers_of old m)) (map (λ p. values_unit p.0 p.1) (filter by_values (arms_of m)))
    (each_made (IsOfMigrate m) rows_unit (λ driver. tt) (drivers_of old m))
    (each_of_map (IsOfMigrate m) (λ p. IsOf m p.0 p.1) (λ p. values_unit p.0 p.1) (λ p is. is) (filter by_values (arms_of m)) (each_kept (λ p. IsOf m p.0 p.1) by_values (arms_of m) all))
  where
    one : (q : (ℕ × ℕ) × Arm) → IsNumbered m q → IsOf m (target_named m q.0.0) q.1
    one q numbered = record {
      among = target_among m q.0 (named_from_numbered m q numbered);
      its = subst (Contains (target_named m q.0.0).arms) (named_by_numbers m q numbered) (arm_among m q.0 (named_from_numbered m q numbered));
    }

    all : AllByRecursion (λ (p : Target × Arm). IsOf m p.0 p.1) (arms_of m)
    all = subst (AllByRecursion (λ (p : Target × Arm). IsOf m p.0 p.1)) (arms_by_numbers m) (each_of_map (λ (p : Target × Arm). IsOf m p.0 p.1) (IsNumbered m) (without_number m) one (numbered_arms m) (all_numbered m))

each_at : {X : Type 0} (P : X → Type 0) (xs : List X) (n : ℕ) (x : X) → AllByRecursion P xs → slice_get xs n ≡ Some x → P x
each_at P [] n x all is = absurd cc
each_at P (y ∷ ys) zero x all is = let same : y ≡ x = cc in subst P same all.0
each_at P (y ∷ ys) (suc n) x all is = each_at P ys n x all.1 is

pub of_migrate : (m : Migration) (number : ℕ) (t : Target) (arm : Arm) → unit_at m number ≡ Some (values_unit t arm) → IsOf m.plan.migrate t arm
of_migrate m number t arm is = each_at (IsOfMigrate m.plan.migrate) (units_in m) number (values_unit t arm) (all_of_migrate (old_of m) m.plan.migrate) is

module _ (old : Database) (m : Migrate) (t : Target) (arm : Arm) (lawful : IsLawful old m) (of : IsOf m t arm) (value : List Value) where
  -- the rows of FROM with a value are of one group where the arm has groups
  pub one_group : (kind : ArmKind) → arm_kind old arm ≡ kind → AreOfOne kind (placed_arm old arm) (from_with old arm kind value)
  one_group ByFrom is = tt
  one_group ByJoin is = tt
  one_group ByPair is = tt
  one_group ByGroup is = subst (λ k. AreOfOne k (placed_arm old arm) (from_with old arm ByGroup value)) is (part_of_one old m t arm lawful of.among of.its value (table_rows old arm.from))

  -- and nothing stands in the way of what the arm makes of them
  pub makes_with : (kind : ArmKind) (join : List (List Value)) → CanMake (placed_arm old arm) (from_with old arm kind value) join
  makes_with ByFrom join = can_make old m t arm [] join lawful of.among of.its refl (omega arith)
  makes_with ByJoin join = can_make old m t arm [] join lawful of.among of.its refl (omega arith)
  makes_with ByPair join = can_make_of_part old m t arm lawful of.among of.its (λ row. same_key value (left_value old arm row)) join
  makes_with ByGroup join = can_make_of_part old m t arm lawful of.among of.its (λ row. same_key value (group_value old arm row)) join
