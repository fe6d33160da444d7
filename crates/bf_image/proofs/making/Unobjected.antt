-- What is true of the arms of a MIGRATE to which there is no objection.
use Rattle.std.proofs.Common.{◌≡◌, ℕ, Bool, true, false, not, ◌&&◌, ◌==◌, if◌then◌else◌, List, [], ◌∷◌, ◌++◌, map, flat_map, length, Option, Some, None, is_some, refl, sym, ap, ap₂, ◌∙◌, inl, inr}
use Rattle.std.specs.Prelude.{unwrap_or, option_map}
use Rattle.std.specs.List.{list_all}
use Rattle.std.proofs.lemmas.Bool.{and_parts, and_from, or_parts, not-false, not_from_false, cases_Bool, false≢true}
use Rattle.std.proofs.lemmas.List.Folds.{flat_map-map}
use Rattle.bf_base.specs.declared.value.Value.{Value}
use Rattle.bf_base.specs.Values.{key_cmp_total, key_cmp-IsAntisymmetric}
use Rattle.bf_base.specs.Lists.{same_name, same_key, has, when, with_before}
use Rattle.bf_base.proofs.Parts.{flat_map-flat_map}
use Rattle.bf_tree.specs.declared.reply.Refusal.TheVariants as refusal
use Rattle.bf_tree.specs.declared.migration.Arm.{Arm}
use Rattle.bf_tree.specs.declared.migration.Target.{Target}
use Rattle.bf_tree.specs.declared.migration.Migrate.{Migrate}
use Rattle.bf_tree.specs.declared.plan.ArmKind.{ArmKind}
use Rattle.bf_tree.specs.declared.plan.ArmKind.TheVariants.{ByFrom, ByJoin, ByPair, ByGroup}
use Rattle.bf_sql.specs.Database.{Database, Stored, IsDatabase, stored_at, table_at, table_rows, is_admitted, no_table}
use Rattle.bf_sql.specs.migrations.Targets.{kind_by, arm_kind, arm_scope, width, equalities}
use Rattle.bf_sql.specs.migrations.MigrationObjections.{drivers_of, driver_by, is_by_group, inherits_key, has_key, on_objections, arm_objections, target_objections, migrate_objections, is_taken}
use Rattle.bf_sql.specs.migrations.Images.{rows_of_join}
use Rattle.bf_sql.specs.migrations.Granules.{arms_of, left_value, right_value, anchor_values}
use Rattle.bf_image.proofs.items.Lists.{none_left, none_right, none_when, none_of_each, all_both, all_so, all_found, all_of_blocks, all_of_map, all_in, each_block_within}
use Rattle.bf_image.proofs.items.Names.{name-equal, name-itself, name-symmetric}
use Rattle.bf_index.proofs.Values.{distinct-has, values_in_order-has}
use Rattle.bf_image.proofs.making.Arms.{is_one_sided, fine_row, key-itself}
use Rattle.bf_image.proofs.cutting.Parts.{is_fine, is_fine_arm}
use Rattle.bf_image.proofs.cutting.Targets.{is_new}

-- an arm of a kind with a JOIN has one
pub joins_by_join : (g j a b : Bool) → kind_by g j a b ≡ ByJoin → j ≡ true
joins_by_join true j a b e = absurd cc
joins_by_join false true a b e = refl
joins_by_join false false a b e = absurd cc

pub joins_by_pair : (g j a b : Bool) → kind_by g j a b ≡ ByPair → j ≡ true
joins_by_pair true j a b e = absurd cc
joins_by_pair false true a b e = refl
joins_by_pair false false a b e = absurd cc

module _ (old : Database) (is : IsDatabase old) (arm : Arm) where
  -- rows have as many values as their table has columns
  pub as_wide : (name : List ℕ) → list_all (λ r. length r == length (table_at old name).columns) (table_rows old name) ≡ true
  as_wide name = of (stored_at old name) refl
    where
      counted : (s : Stored) (row : List Value) → is_admitted s.table row ≡ true → (length row == length s.table.columns) ≡ true
      counted s row e = elim (cases_Bool (length row == length s.table.columns)) [
        | inl wide ↦ wide
        | inr other ↦ absurd (false≢true (rw other at e))
      ]

      of : (o : Option Stored) → stored_at old name ≡ o
          → list_all (λ r. length r == length (unwrap_or (option_map (λ s. s.table) o) no_table).columns) (unwrap_or (option_map (λ s. s.rows) o) []) ≡ true
      of None e = refl
      of (Some s) e =
          all_so (is_admitted s.table) (λ r. length r == length s.table.columns) (counted s) s.rows
          (all_found (λ s. list_all (is_admitted s.table) s.rows) (λ s. same_name s.table.name name) old.tables s is.rows_admitted e)

  pub rows_fine : list_all (fine_row old arm) (table_rows old arm.from) ≡ true
  rows_fine =
      all_both (λ r. length r == width old arm) (λ r. has same_key (anchor_values old arm ByPair) (left_value old arm r)) (fine_row old arm)
      (λ r wide there. and_from _ _ wide (values_in_order-has key_cmp_total key_cmp-IsAntisymmetric (anchor_values old arm ByPair) (left_value old arm r) ∙ there))
      (table_rows old arm.from) (as_wide arm.from) (all_in same_key key-itself (left_value old arm) (table_rows old arm.from) (map (right_value old arm) (rows_of_join old arm.join)))

abbrev pub two_sided : Database → Arm → Bool
two_sided old arm = list_all (λ e. not (is_one_sided (arm_scope old arm) (width old arm) e)) (equalities arm)

abbrev pub alone_in_groups : Database → Arm → Bool
alone_in_groups old arm = if is_by_group (arm_kind old arm) then not (is_some arm.join) else true

module _ (old : Database) (t : Target) (none : target_objections old t ≡ []) where
  pub key_there : has_key old t ≡ true
  key_there = not-false _ (none_when _ _ (none_right _ _ none))

  pub arms_unobjected : flat_map (arm_objections old t) t.arms ≡ []
  arms_unobjected = none_left _ _ (none_left _ _ (none_left _ _ (none_left _ _ (none_left _ _ none))))

  on_unobjected : (arm : Arm) → arm_objections old t arm ≡ [] → two_sided old arm ≡ true
  on_unobjected arm e =
      let on : flat_map (on_objections old t arm) (equalities arm) ≡ [] = none_right _ _ (none_left _ _ (none_left _ _ e)) in
      none_of_each (on_objections old t arm) (λ p. not (is_one_sided (arm_scope old arm) (width old arm) p)) (λ p e. not_from_false _ (none_when _ _ (none_right _ _ (none_left _ _ e)))) (equalities arm) on

  alone_of : (arm : Arm) → inherits_key old arm ≡ true → alone_in_groups old arm ≡ true
  alone_of arm h = of (is_by_group (arm_kind old arm)) _ (not (is_some arm.join)) _ (and_parts _ _ h).1
    where
      of : (b c d e : Bool) → (if b then (d && c) else e) ≡ true → (if b then d else true) ≡ true
      of true c d e h = (and_parts _ _ h).0
      of false c d e h = refl

  pub arms_ok : list_all (λ arm. two_sided old arm && alone_in_groups old arm) t.arms ≡ true
  arms_ok =
      all_both (two_sided old) (inherits_key old) (λ arm. two_sided old arm && alone_in_groups old arm) (λ arm s i. and_from _ _ s (alone_of arm i)) t.arms
      (none_of_each (arm_objections old t) (two_sided old) on_unobjected t.arms arms_unobjected)
      (and_parts _ _ key_there).0

module _ (old : Database) (m : Migrate) (is : IsDatabase old) where
  abbrev pub its_drivers : Target × Arm → List (List ℕ)
  its_drivers p = driver_by (arm_kind old p.1) p.1

  drivers_as_blocks : flat_map (λ t. flat_map (λ arm. driver_by (arm_kind old arm) arm) t.arms) m.targets ≡ flat_map its_drivers (arms_of m)
  drivers_as_blocks = sym (flat_map-flat_map its_drivers (λ t. map (λ arm. (t, arm)) t.arms) m.targets ∙ each m.targets)
    where
      each : (ts : List Target) → flat_map (λ t. flat_map its_drivers (map (λ arm. (t, arm)) t.arms)) ts ≡ flat_map (λ t. flat_map (λ arm. driver_by (arm_kind old arm) arm) t.arms) ts
      each [] = refl
      each (t ∷ ts) = ap₂ (λ ys zs. ys ++ zs) (flat_map-map its_drivers (λ arm. (t, arm)) t.arms) (each ts)

  drivers_have : list_all (λ p. list_all (has same_name (drivers_of old m)) (its_drivers p)) (arms_of m) ≡ true
  drivers_have =
      let all : List (List ℕ) = flat_map (λ t. flat_map (λ arm. driver_by (arm_kind old arm) arm) t.arms) m.targets in
      all_so (λ p. list_all (has same_name (flat_map its_drivers (arms_of m))) (its_drivers p)) (λ p. list_all (has same_name (drivers_of old m)) (its_drivers p))
      (λ p h. all_so (has same_name (flat_map its_drivers (arms_of m))) (has same_name (drivers_of old m)) (λ d there. distinct-has same_name name-symmetric name-equal name-itself all d ∙ ap (λ ds. has same_name ds d) drivers_as_blocks ∙ there) (its_drivers p) h)
      (arms_of m) (each_block_within same_name name-itself its_drivers (arms_of m))

  fine_by : (arm : Arm) (kind : ArmKind) → arm_kind old arm ≡ kind → (drivers : List (List ℕ)) → list_all (has same_name drivers) (driver_by kind arm) ≡ true → two_sided old arm ≡ true → (if is_by_group kind then not (is_some arm.join) else true) ≡ true
      → is_fine old arm drivers kind ≡ true
  fine_by arm ByFrom e drivers there sided alone = (and_parts _ _ there).0
  fine_by arm ByJoin e drivers there sided alone = and_from _ _ (joins_by_join _ (is_some arm.join) _ _ e) there
  fine_by arm ByPair e drivers there sided alone = and_from _ _ (joins_by_pair _ (is_some arm.join) _ _ e) (and_from _ _ sided (rows_fine old is arm))
  fine_by arm ByGroup e drivers there sided alone = alone

  module _ (none : migrate_objections old m ≡ []) where
    pub targets_unobjected : flat_map (target_objections old) m.targets ≡ []
    targets_unobjected = none_left _ _ (none_left _ _ none)

    pub arms_fine : list_all (is_fine_arm old m) (arms_of m) ≡ true
    arms_fine =
        let ok : Target × Arm → Bool = λ p. two_sided old p.1 && alone_in_groups old p.1 in
        let all_ok : list_all ok (arms_of m) ≡ true =
        all_of_blocks ok (λ t. map (λ arm. (t, arm)) t.arms) m.targets
        (none_of_each (target_objections old) (λ t. list_all ok (map (λ arm. (t, arm)) t.arms)) (λ t e. all_of_map ok (λ arm. (t, arm)) t.arms (arms_ok old t e)) m.targets targets_unobjected) in
        all_both (λ p. list_all (has same_name (drivers_of old m)) (its_drivers p)) ok (is_fine_arm old m)
        (λ p there o. let both = and_parts (two_sided old p.1) (alone_in_groups old p.1) o in fine_by p.1 (arm_kind old p.1) refl (drivers_of old m) there both.0 both.1) (arms_of m) drivers_have all_ok

    pub names_new : list_all (λ p. is_new p.0 p.1) (with_before m.targets) ≡ true
    names_new =
        none_of_each (λ p. when (is_taken old m p.0 p.1) (refusal.TableExists p.1.name)) (λ p. is_new p.0 p.1)
        (λ p e. not_from_false _ (or_parts _ _ (none_when _ _ e)).1) (with_before m.targets) (none_right _ _ (none_left _ _ none))
