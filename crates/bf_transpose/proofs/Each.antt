-- An arm that goes by FROM, without a JOIN or a condition, makes a row of each row of its unit's driver.
use Rattle.std.proofs.Common.{◌≡◌, ℕ, zero, suc, ◌+◌, ◌<◌, Bool, true, false, cond, eqb, List, [], ◌∷◌, ◌++◌, map, filter, length, get_or, Option, Some, None, is_none, refl, sym, subst, ap, ap₂, ◌∙◌, arith}
use Rattle.std.specs.Prelude.{slice_get}
use Rattle.std.specs.List.{AllByRecursion, list_any}
use Rattle.std.proofs.lemmas.Bool.{and_from, and_parts, false≢true, or_left}
use Rattle.std.proofs.lemmas.Option.{slice_get-get_or}
use Rattle.bf_base.specs.declared.granule.Granule.{Granule}
use Rattle.bf_base.specs.declared.granule.Place.TheVariants.{Row}
use Rattle.bf_base.specs.declared.value.Value.{Value}
use Rattle.bf_base.specs.Lists.{has, same_name}
use Rattle.bf_base.specs.Tables.{cell}
use Rattle.bf_tree.specs.declared.migration.Arm.{Arm}
use Rattle.bf_tree.specs.declared.migration.Migrate.{Migrate}
use Rattle.bf_tree.specs.declared.plan.ArmKind.{ArmKind}
use Rattle.bf_tree.specs.declared.plan.ArmKind.TheVariants.{ByFrom, ByJoin, ByPair, ByGroup}
use Rattle.bf_tree.specs.declared.plan.PlacedArm.{PlacedArm}
use Rattle.bf_tree.specs.declared.plan.Unit.{Unit as Planned}
use Rattle.bf_tree.specs.Evaluation.{holds_on}
use Rattle.bf_tree.specs.Trees.{Cond, always, both}
use Rattle.bf_sql.specs.Database.{Database, table_rows}
use Rattle.bf_sql.specs.migrations.Granules.{granule, row_at, rows_driven}
use Rattle.bf_sql.specs.migrations.Images.{arm_rows, rows_of_join}
use Rattle.bf_sql.specs.migrations.MigrationObjections.{driver_by}
use Rattle.bf_sql.specs.migrations.Placed.{placed_arm, placed_groups, placed_matches, placed_over, placed_rows}
use Rattle.bf_sql.specs.migrations.Plans.{numbered_arms, rows_unit_of}
use Rattle.bf_sql.specs.migrations.Targets.{arm_kind}
use Rattle.bf_image.specs.Migrations.{IsLawfulMigration, anchors_in, old_of}
use Rattle.bf_image.specs.PlannedUnits.{arm_named}
use Rattle.bf_image.specs.declared.migration.Frozen.{Frozen}
use Rattle.bf_image.specs.declared.migration.Migration.{Migration}
use Rattle.bf_image.proofs.finding.Found.{alone_true}
use Rattle.bf_image.proofs.items.Names.{name-symmetric}
use Rattle.bf_image.proofs.making.PlacedArms.{placed_alike}
use Rattle.bf_image.proofs.planning.Numbered.{IsNumbered, all_numbered, each_kept, each_of_map, named_by_numbers}
use Rattle.bf_transpose.specs.Each.{MakesEach, makes_each, makes_each_by}
use Rattle.bf_transpose.specs.Scans.{IsDriverOf, gives, row_granules}
use Rattle.bf_transpose.specs.Transposed.{is_always}
use Rattle.bf_transpose.proofs.Coming.{alone_at, arm_is, kind_is, only_planned, rows_alone}
use Rattle.bf_transpose.proofs.Outside.{anchors_of_rows}
use Rattle.bf_transpose.proofs.Steps.{row_more, row_tested}

-- a condition whose conjuncts are true of each row is
pub always_holds : (read : ℕ → Value) (c : Cond ℕ) → is_always c ≡ true → holds_on read c ≡ true
always_holds read always is = refl
always_holds read (both c d) is = let parts = and_parts (is_always c) (is_always d) is in and_from _ _ (always_holds read c parts.0) (always_holds read d parts.1)
always_holds read c is = absurd cc

-- what passes a test is of those that do
pub each_passes : {X : Type 0} (P : X → Type 0) (test : X → Bool) (xs : List X) → AllByRecursion P xs → AllByRecursion (λ x. P x × (test x ≡ true)) (filter test xs)
each_passes P test [] all = tt
each_passes P test (x ∷ xs) all = of (test x) refl (each_passes P test xs all.1)
  where
    of : (b : Bool) → test x ≡ b → AllByRecursion (λ x. P x × (test x ≡ true)) (filter test xs) → AllByRecursion (λ x. P x × (test x ≡ true)) (cond b (x ∷ filter test xs) (filter test xs))
    of true is rest = ((all.0, is), rest)
    of false is rest = rest

-- where each of the first positions passes a test, none is left out
pub all_rows : (unit : ℕ) (test : Granule → Bool) (n : ℕ) → ((at : ℕ) → at < n → test (granule unit (Row at)) ≡ true) → filter test (row_granules unit n) ≡ row_granules unit n
all_rows unit test zero passes = refl
all_rows unit test (suc n) passes =
    let next : suc n ≡ n + 1 = omega arith in
    let last : filter test (granule unit (Row n) ∷ []) ≡ granule unit (Row n) ∷ [] = ap (λ b. cond b (granule unit (Row n) ∷ []) []) (passes n (omega arith)) in
    ap (λ k. filter test (row_granules unit k)) next
    ∙ (row_tested unit test n
    ∙ (ap₂ (λ (xs ys : List Granule). xs ++ ys) (all_rows unit test n (λ at less. passes at (omega (arith, less)))) last
    ∙ (sym (row_more unit n) ∙ ap (row_granules unit) (sym next))))

module _ (arm : PlacedArm) (row : List Value) (join : List (List Value)) where
  abbrev made : List (List Value) → List Value
  made rows = map (placed_over rows) arm.items

  abbrev kept : List (List Value) → List (List Value)
  kept rows = filter (λ row. holds_on (cell row) arm.cond) rows

  not_joined : (o : Option (List (ℕ × ℕ))) → is_none o ≡ true → placed_matches arm o (row ∷ []) join ≡ row ∷ []
  not_joined None none = refl
  not_joined (Some on) none = absurd (false≢true none)

  made_by : (kind : ArmKind) → makes_each_by kind arm ≡ true → map made (placed_groups arm kind (kept (placed_matches arm arm.on (row ∷ []) join))) ≡ made (row ∷ []) ∷ []
  made_by ByFrom is =
      let parts = and_parts (is_none arm.on) (is_always arm.cond) is in
      ap (λ rows. map made (placed_groups arm ByFrom (kept rows))) (not_joined arm.on parts.0)
      ∙ ap (λ b. map made (placed_groups arm ByFrom (cond b (row ∷ []) []))) (always_holds (cell row) arm.cond parts.1)
  made_by ByJoin is = absurd (false≢true is)
  made_by ByPair is = absurd (false≢true is)
  made_by ByGroup is = absurd (false≢true is)

  -- MADE: such an arm makes a row of one row of FROM
  made_alone : makes_each arm ≡ true → placed_rows arm (row ∷ []) join ≡ made (row ∷ []) ∷ []
  made_alone is = made_by arm.kind is

by_from : (kind : ArmKind) (arm : PlacedArm) → makes_each_by kind arm ≡ true → kind ≡ ByFrom
by_from ByFrom arm is = refl
by_from ByJoin arm is = absurd (false≢true is)
by_from ByPair arm is = absurd (false≢true is)
by_from ByGroup arm is = absurd (false≢true is)

-- the arms of a unit by rows are driven by its driver
module _ (old : Database) (q : Migrate) (driver : List ℕ) where
  abbrev IsDriven : ℕ × ℕ → Type 0
  IsDriven pair = has same_name (driver_by (arm_kind old (arm_named q pair)) (arm_named q pair)) driver ≡ true

  abbrev is_driven : (ℕ × ℕ) × Arm → Bool
  is_driven p = has same_name (driver_by (arm_kind old p.1) p.1) driver

  all_driven : AllByRecursion IsDriven (rows_unit_of old q driver).arms
  all_driven =
      each_of_map IsDriven (λ p. IsNumbered q p × (is_driven p ≡ true)) (λ p. p.0)
      (λ p is. ap (λ arm. has same_name (driver_by (arm_kind old arm) arm) driver) (named_by_numbers q p is.0) ∙ is.1)
      (filter is_driven (numbered_arms q)) (each_passes (IsNumbered q) is_driven (numbered_arms q) (all_numbered q))

module _ (m : Migration) (lawful : IsLawfulMigration m) (wanted : Cond ℕ) (is_true : is_always wanted ≡ true) (target : ℕ) (within : target < length m.plan.migrate.targets)
    (unit : ℕ) (planned : Planned) (here : slice_get m.plan.units unit ≡ Some planned) (frozen : Frozen) (driven : IsDriverOf m unit frozen) (each : MakesEach m target planned) where
  abbrev old : Database
  old = old_of m

  abbrev q : Migrate
  q = m.plan.migrate

  abbrev arm : Arm
  arm = each.arm

  from_is : arm_kind old arm ≡ ByFrom
  from_is = by_from (arm_kind old arm) (placed_arm old arm) each.each

  -- FROM is the driver
  from_driver : same_name arm.from planned.driver ≡ true
  from_driver =
      let all = each_kept (IsDriven old q planned.driver) (λ pair. eqb pair.0 target) (rows_unit_of old q planned.driver).arms (all_driven old q planned.driver) in
      let one = (subst (λ pairs. AllByRecursion (IsDriven old q planned.driver) pairs)
      (only_planned m lawful wanted target within unit planned here frozen driven each.number each.only arm each.at 0) all).0 in
      let its : has same_name (driver_by (arm_kind old arm) arm) planned.driver ≡ true =
      ap (λ arm. has same_name (driver_by (arm_kind old arm) arm) planned.driver) (sym (arm_is m lawful wanted target within unit planned here frozen driven each.number each.only arm each.at 0)) ∙ one in
      name-symmetric arm.from planned.driver ∙ alone_true _ (ap (λ kind. has same_name (driver_by kind arm) planned.driver) (sym from_is) ∙ its)

  module _ (at : ℕ) (below : at < anchors_in m unit) where
    abbrev row : List Value
    row = get_or (table_rows old planned.driver) at []

    -- GIVEN: so the row at each position gives one that is sought
    pub each_gives : gives m target wanted (granule unit (Row at)) ≡ true
    each_gives =
        let rows = rows_of_join old arm.join in
        let counted : anchors_in m unit ≡ length (table_rows old planned.driver) =
        anchors_of_rows m lawful target within wanted unit frozen driven
        ∙ ap (λ driver. length (table_rows old driver)) (sym (kind_is m lawful wanted target within unit planned here frozen driven).1) in
        let inside : at < length (table_rows old planned.driver) = omega (arith, below, counted) in
        let alone : row_at old arm planned.driver at ≡ row ∷ [] = alone_at (table_rows old planned.driver) at row (slice_get-get_or (table_rows old planned.driver) at [] inside) in
        let made : List Value = map (placed_over (row ∷ [])) (placed_arm old arm).items in
        let is : rows_driven old arm (arm_kind old arm) planned.driver at ≡ made ∷ [] =
        ap (λ kind. rows_driven old arm kind planned.driver at) from_is
        ∙ (ap (λ b. cond b (arm_rows old arm (row_at old arm planned.driver at) rows) []) from_driver
        ∙ (ap (λ from. arm_rows old arm from rows) alone ∙ (placed_alike old arm (row ∷ []) rows ∙ made_alone (placed_arm old arm) row rows each.each))) in
        ap (list_any (λ row. holds_on (cell row) wanted)) (rows_alone m lawful wanted target within unit planned here frozen driven each.number each.only arm each.at at ∙ is)
        ∙ or_left _ _ (always_holds (cell made) wanted is_true)
