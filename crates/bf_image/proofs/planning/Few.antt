-- A migration to which there is no objection has few units.
use Rattle.std.proofs.Common.{◌≡◌, ◌+◌, ◌≤◌, Bool, true, false, not, ◌&&◌, ◌||◌, cond, nat_lt, List, [], ◌∷◌, ◌++◌, map, filter, flat_map, length, refl, sym, ap, ◌∙◌, arith, length-append}
use Rattle.std.proofs.lemmas.List.{length-map}
use Rattle.std.specs.Prelude.{is_some}
use Rattle.std.specs.List.{list_all}
use Rattle.std.proofs.lemmas.Bool.{and_parts, false≢true}
use Rattle.std.proofs.lemmas.Bool.Decides.{nat_tests}
use Rattle.std.proofs.lemmas.List.Elements.{filter-append}
use Rattle.bf_base.specs.Limits.{most_drivers}
use Rattle.bf_tree.specs.Limits.{IsNarrowMigrate}
use Rattle.bf_tree.specs.declared.migration.Arm.{Arm}
use Rattle.bf_tree.specs.declared.migration.Migrate.{Migrate}
use Rattle.bf_tree.specs.declared.migration.Target.{Target}
use Rattle.bf_tree.specs.declared.reply.Refusal.TheVariants as refusal
use Rattle.bf_sql.specs.Database.{Database}
use Rattle.bf_sql.specs.migrations.Granules.{rows_unit, values_unit, arms_of, units_of}
use Rattle.bf_sql.specs.migrations.MigrationObjections.{drivers_of, has_key, inherits_key, is_by_row, keeps_apart, migrate_objections, tag_of, taken_name_objections, target_objections}
use Rattle.bf_sql.specs.migrations.Targets.{arm_kind}
use Rattle.bf_image.proofs.items.Lists.{none_left, none_of_each, none_right, none_when}
use Rattle.bf_image.proofs.making.Unobjected.{key_there}

at_most_one : {X : Type 0} (test : X → Bool) (xs : List X) → nat_lt (length xs) 2 ≡ true → length (filter test xs) ≤ 1
at_most_one test [] few = omega arith
at_most_one test (x ∷ []) few = of (test x)
  where
    of : (b : Bool) → length (cond b (x ∷ []) []) ≤ 1
    of true = omega arith
    of false = omega arith
at_most_one test (x ∷ y ∷ ys) few = let less : length (x ∷ y ∷ ys) ≡ length ys + 2 = omega arith in let many : nat_lt (length ys + 2) 2 ≡ false = grind (arith, nat_tests) in absurd (false≢true (sym many ∙ ap (λ n. nat_lt n 2) (sym less) ∙ few))

-- none of those that all fail a test passes
none_passes : {X : Type 0} (test : X → Bool) (other : X → Bool) (xs : List X) → list_all (λ x. test x && other x) xs ≡ true → filter (λ x. not (test x)) xs ≡ []
none_passes test other [] all = refl
none_passes test other (x ∷ xs) all = ap (λ b. cond (not b) (x ∷ filter (λ x. not (test x)) xs) (filter (λ x. not (test x)) xs)) (and_parts _ _ (and_parts _ _ all).0).0 ∙ none_passes test other xs (and_parts _ _ all).1

filter_of_map : {X Y : Type 0} (test : Y → Bool) (f : X → Y) (xs : List X) → length (filter test (map f xs)) ≡ length (filter (λ x. test (f x)) xs)
filter_of_map test f [] = refl
filter_of_map test f (x ∷ xs) = of (test (f x)) (filter_of_map test f xs)
  where
    of : (b : Bool) → length (filter test (map f xs)) ≡ length (filter (λ x. test (f x)) xs) → length (cond b (f x ∷ filter test (map f xs)) (filter test (map f xs))) ≡ length (cond b (x ∷ filter (λ x. test (f x)) xs) (filter (λ x. test (f x)) xs))
    of true e = omega (arith, e)
    of false e = e

module _ (old : Database) where
  abbrev goes_by_values : Arm → Bool
  goes_by_values arm = not (is_by_row (arm_kind old arm))

  -- an arm that goes by values is its target's one arm
  one_by_values : (t : Target) → has_key old t ≡ true → length (filter goes_by_values t.arms) ≤ 1
  one_by_values t keyed = of (nat_lt (length t.arms) 2) refl (and_parts (list_all (inherits_key old) t.arms) _ keyed).1
    where
      of : (b : Bool) → nat_lt (length t.arms) 2 ≡ b → (b || keeps_apart old t.arms) ≡ true → length (filter goes_by_values t.arms) ≤ 1
      of true few there = at_most_one goes_by_values t.arms few
      of false many apart =
          let none : filter goes_by_values t.arms ≡ [] = none_passes (λ arm. is_by_row (arm_kind old arm)) (λ arm. is_some (tag_of arm.items)) t.arms (and_parts _ _ (and_parts _ _ apart).0).0 in
          let nought : length (filter goes_by_values t.arms) ≡ 0 = ap length none in
          omega (arith, nought)

  few_by_values : (ts : List Target) → list_all (has_key old) ts ≡ true → length (filter (λ (p : Target × Arm). goes_by_values p.1) (flat_map (λ t. map (λ arm. (t, arm)) t.arms) ts)) ≤ length ts
  few_by_values [] all = omega arith
  few_by_values (t ∷ ts) all =
      let test : Target × Arm → Bool = λ p. goes_by_values p.1 in
      let with_t : Arm → Target × Arm = λ arm. (t, arm) in
      let rest : List (Target × Arm) = flat_map (λ t. map (λ arm. (t, arm)) t.arms) ts in
      let apart = ap length (filter-append test (map with_t t.arms) rest) in
      let joined = length-append (filter test (map with_t t.arms)) (filter test rest) in
      let here = filter_of_map test with_t t.arms in
      let both = and_parts (has_key old t) (list_all (has_key old) ts) all in
      let one = one_by_values t both.0 in
      let others = few_by_values ts both.1 in
      omega (arith, apart, joined, here, one, others)

module _ (old : Database) (m : Migrate) (none : migrate_objections old m ≡ []) where
  pub targets_keyed : list_all (has_key old) m.targets ≡ true
  targets_keyed = none_of_each (target_objections old) (has_key old) (key_there old) m.targets (none_left _ _ (none_left _ _ none))

  pub few_drivers : length (drivers_of old m) ≤ most_drivers
  few_drivers =
      let within : nat_lt most_drivers (length (drivers_of old m)) ≡ false = none_when (nat_lt most_drivers (length (drivers_of old m))) (refusal.UnitLimit (length (drivers_of old m))) (none_right (flat_map (target_objections old) m.targets ++ taken_name_objections old m) _ none) in
      grind (arith, nat_tests)

  pub few_units : IsNarrowMigrate m → length (units_of old m) ≤ 12
  few_units narrow =
      let kept : List (Target × Arm) = filter (λ p. goes_by_values old p.1) (arms_of m) in
      let whole = length-append (map rows_unit (drivers_of old m)) (map (λ p. values_unit p.0 p.1) kept) in
      let drivers = length-map (drivers_of old m) rows_unit in
      let values = length-map kept (λ p. values_unit p.0 p.1) in
      let few = few_by_values old m.targets targets_keyed in
      let targets = narrow.targets in
      omega (arith, whole, drivers, values, few, targets, few_drivers)
