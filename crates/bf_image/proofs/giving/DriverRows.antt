-- Whether the arms of a unit make a row of a target of a row of its driver.
use Rattle.std.proofs.Common.{◌≡◌, ◌≢◌, ℕ, ◌+◌, ◌<◌, ◌≤◌, Bool, true, false, ◌&&◌, ◌||◌, eqb, List, [], ◌∷◌, map, length, take, Some, refl, sym, ap, ap₂, ◌∙◌, arith}
use Rattle.std.specs.Prelude.{slice_get}
use Rattle.std.specs.List.{list_any}
use Rattle.std.proofs.Math.Bool.{and-false}
use Rattle.std.proofs.lemmas.Bool.{eq-eqb, false≢true}
use Rattle.std.proofs.lemmas.Bool.Decides.{nat_tests}
use Rattle.std.proofs.lemmas.List.{take_all}
use Rattle.std.proofs.lemmas.List.Folds.{list_any_at, list_any_more}
use Rattle.std.proofs.lemmas.Option.{slice_get_within}
use Rattle.bf_base.specs.declared.granule.Place.TheVariants.{Row}
use Rattle.bf_base.specs.declared.value.Value.{Value}
use Rattle.bf_base.specs.Lists.{same_name}
use Rattle.bf_base.proofs.Order.{list_any-map}
use Rattle.bf_tree.specs.declared.migration.Arm.{Arm}
use Rattle.bf_tree.specs.declared.migration.Migrate.{Migrate}
use Rattle.bf_tree.specs.declared.migration.Target.{Target}
use Rattle.bf_tree.specs.declared.plan.ArmKind.{ArmKind}
use Rattle.bf_tree.specs.declared.plan.ArmKind.TheVariants.{ByFrom, ByJoin, ByPair, ByGroup}
use Rattle.bf_sql.specs.Database.{Database, table_rows}
use Rattle.bf_sql.specs.migrations.Granules.{part_at, rows_driven, rows_unit}
use Rattle.bf_sql.specs.migrations.Images.{arm_rows}
use Rattle.bf_sql.specs.migrations.MigrationObjections.{is_by_row}
use Rattle.bf_sql.specs.migrations.Plans.{rows_unit_of}
use Rattle.bf_sql.specs.migrations.Targets.{arm_kind}
use Rattle.bf_image.specs.BoundArms.{arm_at}
use Rattle.bf_image.specs.Giving.{has_any, has_row_of}
use Rattle.bf_image.specs.Lawful.{IsLawful}
use Rattle.bf_image.specs.Lookup.{from_rows_met, join_rows_met}
use Rattle.bf_image.specs.Migrations.{IsLawfulMigration, old_of, target_at}
use Rattle.bf_image.specs.PlannedUnits.{arm_named, target_named}
use Rattle.bf_image.specs.declared.migration.Migration.{Migration}
use Rattle.bf_image.proofs.arm_gives.Any.{list_any-blocks}
use Rattle.bf_image.proofs.owning.Targets.{name_tells_number}
use Rattle.bf_image.proofs.parting.DriverRows.{IsDriven, by_row, rows_of_row}
use Rattle.bf_image.proofs.parting.UnitRows.{driven_here, pair}
use Rattle.bf_image.proofs.planning.Driven.{IsNamed, part_by_numbers, rows_by_numbers}
use Rattle.bf_image.proofs.planning.Units.{arm_at_named}

one_test : {X : Type 0} (b : Bool) (xs : List X) → list_any (λ x. b) xs ≡ (b && has_any xs)
one_test true [] = refl
one_test false [] = refl
one_test true (x ∷ xs) = refl
one_test false (x ∷ xs) = one_test false xs

-- rows of one target
pub rows_of_one : (m : Migration) (target : ℕ) (s : Target) (rows : List (List Value)) → has_row_of m target (map (λ row. (s, row)) rows) ≡ (same_name s.name (target_at m target).name && has_any rows)
rows_of_one m target s rows =
    list_any-map (λ (p : Target × List Value). same_name p.0.name (target_at m target).name) (λ row. (s, row)) rows ∙ one_test (same_name s.name (target_at m target).name) rows

-- whether an arm makes a row of a row of its driver, by the row that this one meets
module _ (old : Database) (m : Migrate) (driver : List ℕ) (pair : ℕ × ℕ) (is : IsDriven old m driver pair) where
  abbrev arm : Arm
  arm = arm_named m pair

  pub any_driven : (at : ℕ) (row : List Value) (any : Bool) → slice_get (table_rows old driver) at ≡ Some row → IsLawful old m
      → (arm_kind old arm ≡ ByFrom → any ≡ has_any (arm_rows old arm (row ∷ []) (join_rows_met old arm row)))
      → (arm_kind old arm ≡ ByJoin → any ≡ has_any (arm_rows old arm (from_rows_met old arm row) (row ∷ [])))
      → any ≡ has_any (rows_driven old arm (arm_kind old arm) driver at)
  any_driven at row any there lawful from join = of (arm_kind old arm) refl (by_row old m lawful driver pair is)
    where
      of : (kind : ArmKind) → arm_kind old arm ≡ kind → is_by_row kind ≡ true → any ≡ has_any (rows_driven old arm (arm_kind old arm) driver at)
      of ByFrom e row_arm = from e ∙ ap has_any (rows_of_row old m lawful driver pair is at row there (arm_rows old arm (row ∷ []) (join_rows_met old arm row)) (λ f. refl) (λ j. absurd cc))
      of ByJoin e row_arm = join e ∙ ap has_any (rows_of_row old m lawful driver pair is at row there (arm_rows old arm (from_rows_met old arm row) (row ∷ [])) (λ f. absurd cc) (λ j. refl))
      of ByPair e row_arm = absurd (false≢true row_arm)
      of ByGroup e row_arm = absurd (false≢true row_arm)

module _ (m : Migration) (driver : List ℕ) (target at : ℕ) where
  abbrev old_tables : Database
  old_tables = old_of m

  -- whether the arm of a pair of numbers makes a row of the target
  abbrev pub gives_by : ℕ × ℕ → Bool
  gives_by pair = has_row_of m target (rows_by_numbers old_tables m.plan.migrate driver at pair)

  -- a unit gives what one of its arms makes
  pub part_gives : has_row_of m target (part_at old_tables m.plan.migrate (rows_unit driver) (Row at)) ≡ list_any gives_by (rows_unit_of old_tables m.plan.migrate driver).arms
  part_gives =
      ap (has_row_of m target) (part_by_numbers old_tables m.plan.migrate driver at)
      ∙ list_any-blocks (λ (p : Target × List Value). same_name p.0.name (target_at m target).name) (rows_by_numbers old_tables m.plan.migrate driver at) (rows_unit_of old_tables m.plan.migrate driver).arms

  module _ (lawful : IsLawfulMigration m) (there : target < length m.plan.migrate.targets) (pair : ℕ × ℕ) (is : IsNamed m.plan.migrate pair) where
    -- an arm of another target makes none of it, and one of the target what it makes
    gives_told : gives_by pair ≡ (eqb pair.0 target && has_any (rows_driven old_tables (arm_named m.plan.migrate pair) (arm_kind old_tables (arm_named m.plan.migrate pair)) driver at))
    gives_told =
        rows_of_one m target (target_named m.plan.migrate pair.0) (rows_driven old_tables (arm_named m.plan.migrate pair) (arm_kind old_tables (arm_named m.plan.migrate pair)) driver at)
        ∙ ap (λ b. b && has_any (rows_driven old_tables (arm_named m.plan.migrate pair) (arm_kind old_tables (arm_named m.plan.migrate pair)) driver at))
        (name_tells_number m lawful pair.0 target (slice_get_within m.plan.migrate.targets pair.0 (target_named m.plan.migrate pair.0) is.of) there)

-- the arms of a planned unit in turn
module _ (m : Migration) (lawful : IsLawfulMigration m) (driver : List ℕ) (target : ℕ) (there : target < length m.plan.migrate.targets) (arms : List (ℕ × ℕ)) (planned : arms ≡ (rows_unit_of (old_of m) m.plan.migrate driver).arms) (at : ℕ) (row : List Value) (at_row : slice_get (table_rows (old_of m) driver) at ≡ Some row) (i : ℕ) where
  module _ (within : i < length arms) where
    abbrev here : ℕ × ℕ
    here = pair m driver arms planned i within

    driven : IsDriven (old_of m) m.plan.migrate driver here
    driven = driven_here m driver arms planned i within

    -- an arm of the target gives what it makes of the row
    gives_made : (any : Bool)
        → ((arm : Arm) → arm_at m here.0 here.1 ≡ Some arm → arm_kind (old_of m) arm ≡ ByFrom → any ≡ has_any (arm_rows (old_of m) arm (row ∷ []) (join_rows_met (old_of m) arm row)))
        → ((arm : Arm) → arm_at m here.0 here.1 ≡ Some arm → arm_kind (old_of m) arm ≡ ByJoin → any ≡ has_any (arm_rows (old_of m) arm (from_rows_met (old_of m) arm row) (row ∷ [])))
        → gives_by m driver target at here ≡ (eqb here.0 target && any)
    gives_made any from join =
        let found = arm_at_named m here driven.named in
        gives_told m driver target at lawful there here driven.named
        ∙ ap (λ b. eqb here.0 target && b)
        (sym (any_driven (old_of m) m.plan.migrate driver here driven at row any at_row lawful.lawful (from (arm_named m.plan.migrate here) found) (join (arm_named m.plan.migrate here) found)))

    pub gives_here : (any : Bool)
        → ((arm : Arm) → arm_at m here.0 here.1 ≡ Some arm → arm_kind (old_of m) arm ≡ ByFrom → any ≡ has_any (arm_rows (old_of m) arm (row ∷ []) (join_rows_met (old_of m) arm row)))
        → ((arm : Arm) → arm_at m here.0 here.1 ≡ Some arm → arm_kind (old_of m) arm ≡ ByJoin → any ≡ has_any (arm_rows (old_of m) arm (from_rows_met (old_of m) arm row) (row ∷ [])))
        → here.0 ≡ target → any ≡ true → true ≡ has_row_of m target (part_at (old_of m) m.plan.migrate (rows_unit driver) (Row at))
    gives_here any from join own some =
        let given : gives_by m driver target at here ≡ true = gives_made any from join ∙ ap₂ (λ b c. b && c) (eq-eqb here.0 target own) some in
        sym (part_gives m driver target at ∙ ap (list_any (gives_by m driver target at)) (sym planned) ∙ list_any_at (gives_by m driver target at) arms i (0, 0) within given)

    abbrev NoneYet : Type 0
    NoneYet = list_any (gives_by m driver target at) (take i arms) ≡ false

    none_more : NoneYet → gives_by m driver target at here ≡ false → list_any (gives_by m driver target at) (take (i + 1) arms) ≡ false
    none_more so_far none = list_any_more (gives_by m driver target at) arms i (0, 0) within ∙ ap₂ (λ b c. b || c) so_far none

    pub none_here : (any : Bool)
        → ((arm : Arm) → arm_at m here.0 here.1 ≡ Some arm → arm_kind (old_of m) arm ≡ ByFrom → any ≡ has_any (arm_rows (old_of m) arm (row ∷ []) (join_rows_met (old_of m) arm row)))
        → ((arm : Arm) → arm_at m here.0 here.1 ≡ Some arm → arm_kind (old_of m) arm ≡ ByJoin → any ≡ has_any (arm_rows (old_of m) arm (from_rows_met (old_of m) arm row) (row ∷ [])))
        → any ≡ false → NoneYet → list_any (gives_by m driver target at) (take (i + 1) arms) ≡ false
    none_here any from join none so_far = none_more so_far (gives_made any from join ∙ ap (λ b. eqb here.0 target && b) none ∙ and-false (eqb here.0 target))

    pub none_of_other : here.0 ≢ target → NoneYet → list_any (gives_by m driver target at) (take (i + 1) arms) ≡ false
    none_of_other other so_far =
        let apart : eqb here.0 target ≡ false = grind (arith, nat_tests) in
        none_more so_far (gives_told m driver target at lawful there here driven.named ∙ ap (λ b. b && has_any (rows_driven (old_of m) (arm_named m.plan.migrate here) (arm_kind (old_of m) (arm_named m.plan.migrate here)) driver at)) apart)

  pub none_given : length arms ≤ i → list_any (gives_by m driver target at) (take i arms) ≡ false → false ≡ has_row_of m target (part_at (old_of m) m.plan.migrate (rows_unit driver) (Row at))
  none_given past so_far =
      sym (part_gives m driver target at ∙ ap (list_any (gives_by m driver target at)) (sym planned) ∙ ap (list_any (gives_by m driver target at)) (sym (take_all i arms past)) ∙ so_far)
