-- What the arms of a unit make of a row of its driver, by the arms' numbers.
use Rattle.std.proofs.Common.{◌≡◌, ℕ, Bool, true, false, cond, List, [], ◌∷◌, ◌++◌, map, filter, flat_map, refl, sym, ap, ap₂, ◌∙◌}
use Rattle.std.specs.Prelude.{Some, slice_get}
use Rattle.std.specs.List.{AllByRecursion, Contains}
use Rattle.std.proofs.lemmas.Bool.{or_parts}
use Rattle.std.proofs.lemmas.List.Folds.{flat_map-map}
use Rattle.std.proofs.lemmas.Option.{slice_get_within, get_or_from_slice_get}
use Rattle.bf_base.specs.declared.granule.Place.TheVariants.{Row}
use Rattle.bf_base.specs.declared.value.Value.{Value}
use Rattle.bf_base.specs.Lists.{has, same_name}
use Rattle.bf_tree.specs.declared.migration.Arm.{Arm}
use Rattle.bf_tree.specs.declared.migration.Migrate.{Migrate}
use Rattle.bf_tree.specs.declared.migration.Target.{Target}
use Rattle.bf_tree.specs.declared.plan.ArmKind.{ArmKind}
use Rattle.bf_tree.specs.declared.plan.ArmKind.TheVariants.{ByFrom, ByJoin, ByPair, ByGroup}
use Rattle.bf_sql.specs.Database.{Database, table_rows}
use Rattle.bf_sql.specs.migrations.Granules.{part_at, row_at, rows_driven, rows_unit}
use Rattle.bf_sql.specs.migrations.Images.{arm_rows, rows_of_join}
use Rattle.bf_sql.specs.migrations.MigrationObjections.{driver_by}
use Rattle.bf_sql.specs.migrations.Plans.{numbered_arms, rows_unit_of}
use Rattle.bf_sql.specs.migrations.Targets.{arm_kind}
use Rattle.bf_image.specs.PlannedUnits.{target_named, arm_named}
use Rattle.bf_image.proofs.items.Names.{name-symmetric}
use Rattle.bf_image.proofs.planning.Numbered.{IsNumbered, all_numbered, arms_by_numbers, each_kept, each_of_map, named_by_numbers, without_number}

-- blocks of those that fail a test are empty
blocks_where : {X Y : Type 0} (test : X → Bool) (f : X → List Y) → ((x : X) → test x ≡ false → f x ≡ []) → (xs : List X) → flat_map f xs ≡ flat_map f (filter test xs)
blocks_where test f none [] = refl
blocks_where test f none (x ∷ xs) = of (test x) refl (blocks_where test f none xs)
  where
    of : (b : Bool) → test x ≡ b → flat_map f xs ≡ flat_map f (filter test xs) → (f x ++ flat_map f xs) ≡ flat_map f (cond b (x ∷ filter test xs) (filter test xs))
    of true at e = ap (λ ys. f x ++ ys) e
    of false at e = ap₂ (λ ys zs. ys ++ zs) (none x at) e

blocks_equal_each : {X Y : Type 0} (P : X → Type 0) (f g : X → List Y) → ((x : X) → P x → f x ≡ g x) → (xs : List X) → AllByRecursion P xs → flat_map f xs ≡ flat_map g xs
blocks_equal_each P f g one [] h = refl
blocks_equal_each P f g one (x ∷ xs) h = ap₂ (λ ys zs. ys ++ zs) (one x h.0) (blocks_equal_each P f g one xs h.1)

module _ (old : Database) (arm : Arm) (driver : List ℕ) (at : ℕ) where
  -- an arm makes nothing of a row of a table that does not drive it
  none_undriven : (kind : ArmKind) → has same_name (driver_by kind arm) driver ≡ false → rows_driven old arm kind driver at ≡ []
  none_undriven ByFrom none =
      let other : same_name arm.from driver ≡ false = name-symmetric arm.from driver ∙ (or_parts _ _ none).0 in
      ap (λ b. cond b (arm_rows old arm (row_at old arm driver at) (rows_of_join old arm.join)) []) other
  none_undriven ByJoin none = ap (λ b. cond b (arm_rows old arm (table_rows old arm.from) (row_at old arm driver at)) []) none
  none_undriven ByPair none = refl
  none_undriven ByGroup none = refl

-- NAMED: numbers that name an arm of a target
pub record IsNamed (m : Migrate) (pair : ℕ × ℕ) : Type 0 where
  pub of : slice_get m.targets pair.0 ≡ Some (target_named m pair.0)
  pub at : slice_get (target_named m pair.0).arms pair.1 ≡ Some (arm_named m pair)

pub named_from_numbered : (m : Migrate) (q : (ℕ × ℕ) × Arm) → IsNumbered m q → IsNamed m q.0
named_from_numbered m q numbered = record { of = numbered.of; at = numbered.at ∙ ap Some (sym (named_by_numbers m q numbered)) }

contained : {X : Type 0} (xs : List X) (k : ℕ) (x : X) → slice_get xs k ≡ Some x → Contains xs x
contained xs k x at = (k, slice_get_within xs k x at, get_or_from_slice_get xs k x x at)

pub target_among : (m : Migrate) (pair : ℕ × ℕ) → IsNamed m pair → Contains m.targets (target_named m pair.0)
target_among m pair named = contained m.targets pair.0 (target_named m pair.0) named.of

pub arm_among : (m : Migrate) (pair : ℕ × ℕ) → IsNamed m pair → Contains (target_named m pair.0).arms (arm_named m pair)
arm_among m pair named = contained (target_named m pair.0).arms pair.1 (arm_named m pair) named.at

module _ (old : Database) (m : Migrate) (driver : List ℕ) where
  abbrev is_driven : (ℕ × ℕ) × Arm → Bool
  is_driven q = has same_name (driver_by (arm_kind old q.1) q.1) driver

  -- the numbers of a unit by rows name arms
  pub driven_named : AllByRecursion (IsNamed m) (rows_unit_of old m driver).arms
  driven_named =
      each_of_map (IsNamed m) (IsNumbered m) (λ q. q.0) (named_from_numbered m) (filter is_driven (numbered_arms m))
      (each_kept (IsNumbered m) is_driven (numbered_arms m) (all_numbered m))

  module _ (at : ℕ) where
    -- what the arm of a pair of numbers makes of a row of the driver, with its target
    abbrev pub rows_by_numbers : ℕ × ℕ → List (Target × List Value)
    rows_by_numbers pair = map (λ row. (target_named m pair.0, row)) (rows_driven old (arm_named m pair) (arm_kind old (arm_named m pair)) driver at)

    abbrev rows_of_arm : Target × Arm → List (Target × List Value)
    rows_of_arm p = map (λ row. (p.0, row)) (rows_driven old p.1 (arm_kind old p.1) driver at)

    -- the part of a row is made by the arms of its unit alone
    pub part_by_numbers : part_at old m (rows_unit driver) (Row at) ≡ flat_map rows_by_numbers (rows_unit_of old m driver).arms
    part_by_numbers =
        let kept = filter is_driven (numbered_arms m) in
        ap (flat_map rows_of_arm) (sym (arms_by_numbers m))
        ∙ flat_map-map rows_of_arm (without_number m) (numbered_arms m)
        ∙ blocks_where is_driven (λ q. rows_of_arm (without_number m q))
        (λ q none. ap (map (λ row. (target_named m q.0.0, row))) (none_undriven old q.1 driver at (arm_kind old q.1) none)) (numbered_arms m)
        ∙ blocks_equal_each (IsNumbered m) (λ q. rows_of_arm (without_number m q)) (λ q. rows_by_numbers q.0)
        (λ q numbered. ap (λ arm. map (λ row. (target_named m q.0.0, row)) (rows_driven old arm (arm_kind old arm) driver at)) (sym (named_by_numbers m q numbered)))
        kept (each_kept (IsNumbered m) is_driven (numbered_arms m) (all_numbered m))
        ∙ sym (flat_map-map rows_by_numbers (λ q. q.0) kept)
