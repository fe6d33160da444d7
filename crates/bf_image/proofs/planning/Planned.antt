-- The units of a plan stand for those of its migration.
use Rattle.std.proofs.Common.{◌≡◌, ℕ, Bool, true, false, not, cond, List, [], ◌∷◌, ◌++◌, map, filter, refl, sym, ap, ap₂, ◌∙◌}
use Rattle.std.specs.List.{AllByRecursion}
use Rattle.std.proofs.lemmas.List.{map-append}
use Rattle.std.proofs.lemmas.Simd.{map-map}
use Rattle.bf_tree.specs.declared.migration.Arm.{Arm}
use Rattle.bf_tree.specs.declared.migration.Migrate.{Migrate}
use Rattle.bf_tree.specs.declared.plan.ArmKind.{ArmKind}
use Rattle.bf_tree.specs.declared.plan.ArmKind.TheVariants.{ByFrom, ByJoin, ByPair, ByGroup}
use Rattle.bf_sql.specs.Database.{Database}
use Rattle.bf_sql.specs.migrations.Granules.{values_unit, arms_of, units_of}
use Rattle.bf_sql.specs.migrations.MigrationObjections.{drivers_of, is_by_row}
use Rattle.bf_sql.specs.migrations.Plans.{kind_by_values, numbered_arms, planned_units, rows_unit_of, values_unit_of}
use Rattle.bf_sql.specs.migrations.Targets.{arm_kind}
use Rattle.bf_image.specs.PlannedUnits.{form_by, target_named, unit_form}
use Rattle.bf_image.proofs.planning.Numbered.{IsNumbered, all_numbered, arms_by_numbers, each_kept, named_by_numbers}

filter_of_map : {X Y : Type 0} (test : Y → Bool) (f : X → Y) (xs : List X) → filter test (map f xs) ≡ map f (filter (λ x. test (f x)) xs)
filter_of_map test f [] = refl
filter_of_map test f (x ∷ xs) = of (test (f x)) (filter_of_map test f xs)
  where
    of : (b : Bool) → filter test (map f xs) ≡ map f (filter (λ x. test (f x)) xs) → cond b (f x ∷ filter test (map f xs)) (filter test (map f xs)) ≡ map f (cond b (x ∷ filter (λ x. test (f x)) xs) (filter (λ x. test (f x)) xs))
    of true e = ap (λ ys. f x ∷ ys) e
    of false e = e

pub map_equal_each : {X Y : Type 0} (P : X → Type 0) (f g : X → Y) → ((x : X) → P x → f x ≡ g x) → (xs : List X) → AllByRecursion P xs → map f xs ≡ map g xs
map_equal_each P f g one [] h = refl
map_equal_each P f g one (x ∷ xs) h = ap₂ (λ y ys. y ∷ ys) (one x h.0) (map_equal_each P f g one xs h.1)

module _ (old : Database) (m : Migrate) where
  abbrev goes_by_values : Arm → Bool
  goes_by_values arm = not (is_by_row (arm_kind old arm))

  form_of_values : (q : (ℕ × ℕ) × Arm) → IsNumbered m q → unit_form m (values_unit_of old m q) ≡ values_unit (target_named m q.0.0) q.1
  form_of_values q numbered = of (arm_kind old q.1)
    where
      of : (kind : ArmKind) → form_by m (kind_by_values kind) q.1.from (q.0 ∷ []) ≡ values_unit (target_named m q.0.0) q.1
      of ByFrom = ap (values_unit (target_named m q.0.0)) (named_by_numbers m q numbered)
      of ByJoin = ap (values_unit (target_named m q.0.0)) (named_by_numbers m q numbered)
      of ByPair = ap (values_unit (target_named m q.0.0)) (named_by_numbers m q numbered)
      of ByGroup = ap (values_unit (target_named m q.0.0)) (named_by_numbers m q numbered)

  forms_of_values : map (unit_form m) (map (values_unit_of old m) (filter (λ q. goes_by_values q.1) (numbered_arms m))) ≡ map (λ p. values_unit p.0 p.1) (filter (λ p. goes_by_values p.1) (arms_of m))
  forms_of_values =
      let kept = filter (λ q. goes_by_values q.1) (numbered_arms m) in
      map-map (unit_form m) (values_unit_of old m) kept
      ∙ map_equal_each (IsNumbered m) (λ q. unit_form m (values_unit_of old m q)) (λ q. values_unit (target_named m q.0.0) q.1) form_of_values kept (each_kept (IsNumbered m) (λ q. goes_by_values q.1) (numbered_arms m) (all_numbered m))
      ∙ sym (map-map (λ p. values_unit p.0 p.1) (λ q. (target_named m q.0.0, q.1)) kept)
      ∙ ap (map (λ p. values_unit p.0 p.1)) (sym (filter_of_map (λ p. goes_by_values p.1) (λ q. (target_named m q.0.0, q.1)) (numbered_arms m)))
      ∙ ap (λ ps. map (λ p. values_unit p.0 p.1) (filter (λ p. goes_by_values p.1) ps)) (arms_by_numbers m)

  pub units_planned : map (unit_form m) (planned_units old m) ≡ units_of old m
  units_planned =
      map-append (unit_form m) (map (rows_unit_of old m) (drivers_of old m)) (map (values_unit_of old m) (filter (λ q. goes_by_values q.1) (numbered_arms m)))
      ∙ ap₂ (λ xs ys. xs ++ ys) (map-map (unit_form m) (rows_unit_of old m) (drivers_of old m)) forms_of_values
