-- The rows of a unit's arm by the values by which it goes.
use Rattle.std.proofs.Common.{◌≡◌, ℕ, ◌+◌, ◌<◌, Bool, true, false, cond, List, [], ◌∷◌, ◌++◌, map, find, length, take, Some, None, Bor, refl, sym, ap, ap₂, ◌∙◌, subst, arith}
use Rattle.std.specs.Prelude.{Option, IsTrue, option_map, slice_get}
use Rattle.std.specs.List.{AllByRecursion}
use Rattle.std.specs.Option.{option_and_then}
use Rattle.std.proofs.lemmas.Bool.{false≢true}
use Rattle.std.proofs.Math.Seq.{take-length}
use Rattle.std.proofs.lemmas.List.{length-map, take_more}
use Rattle.std.proofs.lemmas.Option.{get_or_from_slice_get, slice_get-get_or, slice_get-map}
use Rattle.std.proofs.lemmas.Simd.{map-map}
use Rattle.bf_base.specs.declared.value.Value.{Value}
use Rattle.bf_base.specs.Lists.{same_name}
use Rattle.bf_base.specs.Tables.{cells}
use Rattle.bf_heap.specs.Heaps.{Entry}
use Rattle.bf_tree.specs.Limits.{is_narrow}
use Rattle.bf_tree.specs.declared.migration.Arm.{Arm}
use Rattle.bf_tree.specs.declared.migration.Join.{Join}
use Rattle.bf_tree.specs.declared.migration.Target.{Target}
use Rattle.bf_tree.specs.declared.plan.ArmKind.{ArmKind}
use Rattle.bf_tree.specs.declared.plan.ArmKind.TheVariants.{ByFrom, ByJoin, ByPair, ByGroup}
use Rattle.bf_sql.specs.Database.{Database, table_rows}
use Rattle.bf_sql.specs.migrations.Granules.{UnitForm, rows_unit, values_unit, left_value, right_value}
use Rattle.bf_sql.specs.migrations.Images.{group_value}
use Rattle.bf_sql.specs.migrations.MigrationObjections.{is_by_row}
use Rattle.bf_sql.specs.migrations.Targets.{arm_kind}
use Rattle.bf_image.specs.BoundArms.{HasValues, IsFrozenArm, IsJoined, IsOfUnit, are_joined_within, arm_index, places_in_from, places_in_join}
use Rattle.bf_index.specs.ByValues.{Valued, by_value, values_at}
use Rattle.bf_image.specs.Migrations.{IsLawfulMigration, from_values, old_of, source_of, unit_at, unit_index, units_in, value_indexes}
use Rattle.bf_image.specs.PlannedUnits.{unit_form}
use Rattle.bf_image.specs.declared.arms.FrozenArm.{FrozenArm}
use Rattle.bf_image.specs.declared.migration.Frozen.{Frozen}
use Rattle.bf_image.specs.declared.migration.Migration.{Migration}
use Rattle.bf_image.specs.declared.value_indexes.UnitIndex.{UnitIndex}
use Rattle.bf_image.proofs.planning.Bound.{from_rows, group_cells, joined_of, left_cells, right_cells, rows_found, rows_in}
use Rattle.bf_image.proofs.planning.Units.{IsUnitOf, unit_among, units_stand_for}
use Rattle.bf_image.proofs.planning.Within.{IsAllowed, allowed, alone_by_group, from_within, join_within}

pub each_found : {X : Type 0} (P : X → Type 0) (test : X → Bool) (xs : List X) (x : X) → AllByRecursion P xs → find test xs ≡ Some x → P x
each_found P test [] x h e = absurd cc
each_found P test (y ∷ ys) x h e = of (test y) (λ found. each_found P test ys x h.1 found) e
  where
    of : (b : Bool) → (find test ys ≡ Some x → P x) → cond b (Some y) (find test ys) ≡ Some x → P x
    of true rest e = let same : y ≡ x = cc in subst P same h.0
    of false rest e = rest e

pub values_alike : (made : List Value → List Value) (places : List ℕ) (rows : List (List Value)) (entries : List Entry) → ((row : List Value) → cells places row ≡ made row) → rows ≡ rows_in entries → map made rows ≡ values_at places entries
values_alike made places rows entries one same = ap (map made) same ∙ map-map made (λ (e : Entry). e.1) entries ∙ each entries
  where
    each : (es : List Entry) → map (λ (e : Entry). made e.1) es ≡ values_at places es
    each [] = refl
    each (e ∷ es) = ap₂ (λ v vs. v ∷ vs) (sym (one e.1)) (each es)

-- a table of a lawful migration is narrow
pub narrow_found : (m : Migration) → IsLawfulMigration m → (name : List ℕ) (frozen : Frozen) → source_of m name ≡ Some frozen → IsTrue (is_narrow frozen.table)
narrow_found m lawful name frozen e = each_found (λ (f : Frozen). IsTrue (is_narrow f.table)) (λ (f : Frozen). same_name f.table.name name) m.frozen frozen lawful.tables e

module _ (m : Migration) (lawful : IsLawfulMigration m) where
  abbrev old : Database
  old = old_of m

  -- the arm of a unit by values, with its old tables
  pub record IsArmOf (number : ℕ) (bound : FrozenArm) : Type 0 where
    pub target : Target
    pub arm : Arm
    pub at : unit_at m number ≡ Some (values_unit target arm)
    pub is : IsFrozenArm m bound.target arm bound
    pub unit : IsUnitOf m lawful target arm
    pub allowed : IsAllowed (old_of m) target arm

  pub arm_of : (number : ℕ) (bound : FrozenArm) → IsOfUnit m (unit_at m number) (Some bound) → IsArmOf number bound
  arm_of number bound = of (unit_at m number) refl
    where
      of : (o : Option UnitForm) → unit_at m number ≡ o → IsOfUnit m o (Some bound) → IsArmOf number bound
      of None at is = absurd is
      of (Some (rows_unit driver)) at is = absurd is
      of (Some (values_unit t arm)) at is =
          let unit = unit_among m lawful number t arm at in
          record { target = t; arm = arm; at = at; is = is.0; unit = unit; allowed = allowed (old_of m) m.plan.migrate t arm lawful.lawful unit.target_among unit.arm_among }

  module _ (number : ℕ) (bound : FrozenArm) (of_unit : IsOfUnit m (unit_at m number) (Some bound)) where
    joined_values : (ia : IsArmOf number bound) (o : Option Frozen) → joined_of bound ≡ o → IsTrue (are_joined_within (places_in_join bound) o)
    joined_values ia None e = refl
    joined_values ia (Some f) e = join_within m lawful bound.target ia.target ia.arm ia.allowed bound ia.is f e

    pub has_values : HasValues bound
    has_values =
        let ia = arm_of number bound of_unit in
        record {
          narrow = narrow_found m lawful ia.arm.from bound.from.now ia.is.from;
          from = from_within m lawful bound.target ia.target ia.arm ia.allowed bound ia.is ia.unit.by_values;
          join = joined_values ia (joined_of bound) refl;
        }

    from_index : (ia : IsArmOf number bound) (kind : ArmKind) → arm_kind old ia.arm ≡ kind → is_by_row kind ≡ false → from_values old ia.arm kind ≡ values_at (places_in_from bound) bound.from.now.rows
    from_index ia ByFrom e values = absurd (false≢true (sym values))
    from_index ia ByJoin e values = absurd (false≢true (sym values))
    from_index ia ByGroup e values =
        values_alike (group_value old ia.arm) (places_in_from bound) (table_rows old ia.arm.from) bound.from.now.rows
        (group_cells m bound.target ia.arm bound ia.is (alone_by_group old ia.arm ia.allowed.alone e)) (from_rows m bound.target ia.arm bound ia.is)
    from_index ia ByPair e values =
        values_alike (left_value old ia.arm) (places_in_from bound) (table_rows old ia.arm.from) bound.from.now.rows
        (left_cells m bound.target ia.arm bound ia.is e) (from_rows m bound.target ia.arm bound ia.is)

    join_index : (ia : IsArmOf number bound) (j : Option Join) (o : Option (Bor Frozen)) → IsJoined m j (option_map (λ (f : Bor Frozen). f.now) o)
        → option_map (λ (j : Join). by_value (map (right_value old ia.arm) (table_rows old j.table))) j ≡ option_map (λ (f : Bor Frozen). by_value (values_at (places_in_join bound) f.now.rows)) o
    join_index ia None None is = refl
    join_index ia None (Some f) is = absurd is
    join_index ia (Some j) None is = absurd is
    join_index ia (Some j) (Some f) is =
        ap (λ vs. Some (by_value vs)) (values_alike (right_value old ia.arm) (places_in_join bound) (table_rows old j.table) f.now.rows (right_cells m bound.target ia.arm bound ia.is) (rows_found m j.table f.now is))

    -- the index of the unit is that of its arm
    pub index_is : option_and_then (unit_index (old_of m)) (unit_at m number) ≡ Some (arm_index bound)
    index_is =
        let ia = arm_of number bound of_unit in
        let made : List Valued → Option (List Valued) → Option UnitIndex = λ from join. Some (record { from = from; join = join }) in
        ap (option_and_then (unit_index (old_of m))) ia.at
        ∙ ap₂ made (ap by_value (from_index ia (arm_kind old ia.arm) refl ia.unit.by_values)) (join_index ia ia.arm.join bound.join ia.is.join)

  -- the indexes of units, one by one
  length_of_indexes : length (value_indexes m) ≡ length m.plan.units
  length_of_indexes = length-map (units_in m) (unit_index (old_of m)) ∙ ap length (sym (units_stand_for m lawful)) ∙ length-map m.plan.units (unit_form m.plan.migrate)

  pub one_more_index : (number : ℕ) → number < length m.plan.units → take (number + 1) (value_indexes m) ≡ take number (value_indexes m) ++ option_and_then (unit_index (old_of m)) (unit_at m number) ∷ []
  one_more_index number less = of (unit_at m number) refl
    where
      within : number < length (value_indexes m)
      within = omega (arith, less, length_of_indexes)

      at_is : slice_get (value_indexes m) number ≡ option_map (unit_index (old_of m)) (unit_at m number)
      at_is = slice_get-map (unit_index (old_of m)) (units_in m) number

      here : (x : Option UnitIndex) → slice_get (value_indexes m) number ≡ Some x → take (number + 1) (value_indexes m) ≡ take number (value_indexes m) ++ x ∷ []
      here x e = take_more (value_indexes m) number None within ∙ ap (λ y. take number (value_indexes m) ++ y ∷ []) (get_or_from_slice_get (value_indexes m) number x None e)

      of : (o : Option UnitForm) → unit_at m number ≡ o → take (number + 1) (value_indexes m) ≡ take number (value_indexes m) ++ option_and_then (unit_index (old_of m)) o ∷ []
      of None e =
          let none : slice_get (value_indexes m) number ≡ None = at_is ∙ ap (option_map (unit_index (old_of m))) e in
          let some = slice_get-get_or (value_indexes m) number None within in
          absurd cc
      of (Some u) e = here (unit_index (old_of m) u) (at_is ∙ ap (option_map (unit_index (old_of m))) e)

  pub all_indexes : take (length m.plan.units) (value_indexes m) ≡ value_indexes m
  all_indexes = ap (λ n. take n (value_indexes m)) (sym length_of_indexes) ∙ take-length (value_indexes m)

  -- a list of indexes with that of the next unit
  pub next_index : (number : ℕ) (units pushed : List (Option UnitIndex)) (index : Option UnitIndex) → number < length m.plan.units → pushed ≡ units ++ index ∷ [] → units ≡ take number (value_indexes m)
      → index ≡ option_and_then (unit_index (old_of m)) (unit_at m number) → pushed ≡ take (number + 1) (value_indexes m)
  next_index number units pushed index less is made its =
      is ∙ ap₂ (λ (xs : List (Option UnitIndex)) (x : Option UnitIndex). xs ++ x ∷ []) made its ∙ sym (one_more_index number less)
