-- The anchors of a unit of a lawful migration.
use Rattle.std.proofs.Common.{◌≡◌, ℕ, ◌≤◌, Bool, true, false, cond, if◌then◌else◌, nat_le, nat_lt, List, [], ◌∷◌, ◌++◌, map, find, length, Some, None, refl, sym, ap, ap₂, ◌∙◌, append-nil, subst, arith}
use Rattle.std.specs.Prelude.{IsTrue, Option, option_map, slice_get, unwrap_or}
use Rattle.std.specs.Option.{option_and_then}
use Rattle.std.proofs.lemmas.Bool.{false≢true}
use Rattle.std.proofs.lemmas.Bool.Decides.{nat_tests}
use Rattle.std.proofs.lemmas.List.{length-map}
use Rattle.std.proofs.lemmas.Option.{slice_get-map, slice_get_past}
use Rattle.bf_base.specs.Limits.{most_rows}
use Rattle.bf_base.specs.Lists.{has, same_name}
use Rattle.bf_base.specs.declared.granule.Place.TheVariants.{Row, Group}
use Rattle.bf_tree.specs.Limits.{is_narrow}
use Rattle.bf_tree.specs.declared.migration.Join.{Join}
use Rattle.bf_tree.specs.declared.plan.ArmKind.{ArmKind}
use Rattle.bf_tree.specs.declared.plan.ArmKind.TheVariants.{ByFrom, ByJoin, ByPair, ByGroup}
use Rattle.bf_tree.specs.declared.plan.Plan.{Plan}
use Rattle.bf_tree.specs.declared.plan.Unit.{Unit as Planned}
use Rattle.bf_tree.specs.declared.plan.UnitKind.{UnitKind}
use Rattle.bf_tree.specs.declared.plan.UnitKind.TheVariants.{Rows, Groups, Joins}
use Rattle.bf_sql.specs.Database.{table_rows}
use Rattle.bf_sql.specs.migrations.Granules.{UnitForm, rows_unit, values_unit, anchor_values, anchors_of, granule, left_value, right_value}
use Rattle.bf_sql.specs.migrations.Images.{group_value, rows_of_join}
use Rattle.bf_sql.specs.migrations.MigrationObjections.{is_by_row, sources_of}
use Rattle.bf_sql.specs.migrations.Targets.{arm_kind}
use Rattle.bf_image.specs.BoundArms.{HasFewRows, IsJoined, IsOfUnit, arm_values, entries_of, places_in_from, places_in_join}
use Rattle.bf_index.specs.ByValues.{values_at}
use Rattle.bf_image.specs.Migrations.{IsLawfulMigration, anchored_at, anchors_in, old_of, source_of, stored_of, unit_at}
use Rattle.bf_image.specs.PlannedUnits.{form_by, unit_form}
use Rattle.bf_image.specs.declared.arms.FrozenArm.{FrozenArm}
use Rattle.bf_image.specs.declared.migration.Frozen.{Frozen}
use Rattle.bf_image.specs.declared.migration.Migration.{Migration}
use Rattle.bf_image.proofs.admitting.Few.{few_named}
use Rattle.bf_image.proofs.cutting.Anchors.{count_is, place_is}
use Rattle.bf_image.proofs.items.Names.{name-equal}
use Rattle.bf_image.proofs.planning.Bound.{from_rows, group_cells, joined_of, left_cells, right_cells, rows_found}
use Rattle.bf_image.proofs.planning.Indexes.{IsArmOf, arm_of, each_found, has_values, values_alike}
use Rattle.bf_image.proofs.planning.Sourced.{stored_source}
use Rattle.bf_image.proofs.planning.Units.{unit_at_number}
use Rattle.bf_image.proofs.planning.Within.{alone_by_group}

found_passes : {X : Type 0} (test : X → Bool) (xs : List X) (x : X) → find test xs ≡ Some x → test x ≡ true
found_passes test [] x e = absurd cc
found_passes test (y ∷ ys) x e = of (test y) refl (found_passes test ys x) e
  where
    of : (b : Bool) → test y ≡ b → (find test ys ≡ Some x → test x ≡ true) → cond b (Some y) (find test ys) ≡ Some x → test x ≡ true
    of true at rest e = let same : y ≡ x = cc in ap test (sym same) ∙ at
    of false at rest e = rest e

module _ (m : Migration) (lawful : IsLawfulMigration m) where
  -- an old table has few rows
  pub few_rows : (name : List ℕ) (f : Frozen) → source_of m name ≡ Some f → length f.rows ≤ most_rows
  few_rows name f e =
      let sources : m.plan.sources ≡ sources_of m.plan.migrate = ap (λ (p : Plan). p.sources) lawful.planned in
      let there : has same_name m.plan.sources f.table.name ≡ true = each_found (λ (f : Frozen). has same_name m.plan.sources f.table.name ≡ true) (λ (f : Frozen). same_name f.table.name name) m.frozen f lawful.sources e in
      let same : f.table.name ≡ name = name-equal f.table.name name (found_passes (λ (f : Frozen). same_name f.table.name name) m.frozen f e) in
      let few : nat_le (length (table_rows (old_of m) name)) most_rows ≡ true = few_named (old_of m) (sources_of m.plan.migrate) lawful.lawful.few name (ap₂ (λ ns n. has same_name ns n) (sym sources) (sym same) ∙ there) in
      let counted : length (table_rows (old_of m) name) ≡ length f.rows = ap length (rows_found m name f e) ∙ length-map f.rows (λ entry. entry.1) in
      few_enough (length (table_rows (old_of m) name)) (length f.rows) counted few
    where
      few_enough : (a b : ℕ) → a ≡ b → nat_le a most_rows ≡ true → b ≤ most_rows
      few_enough a b same few = grind (arith, nat_tests)

  -- how many rows a table has, by its look-up
  pub count_at : (name : List ℕ) → length (table_rows (old_of m) name) ≡ length (entries_of (source_of m name))
  count_at name = of (source_of m name) refl
    where
      of : (o : Option Frozen) → source_of m name ≡ o → length (table_rows (old_of m) name) ≡ length (entries_of o)
      of None e = ap (λ o. length (unwrap_or (option_map (λ s. s.rows) o) [])) (stored_source m name ∙ ap (option_map stored_of) e)
      of (Some f) e = ap length (rows_found m name f e) ∙ length-map f.rows (λ entry. entry.1)

  module _ (number : ℕ) (bound : FrozenArm) (of_unit : IsOfUnit m (unit_at m number) (Some bound)) where
    few_joined : (j : Option Join) (o : Option Frozen) → IsJoined m j o → length (entries_of o) ≤ most_rows
    few_joined None None is = omega arith
    few_joined None (Some f) is = absurd is
    few_joined (Some j) None is = absurd is
    few_joined (Some j) (Some f) is = few_rows j.table f is

    pub has_few_rows : HasFewRows bound
    has_few_rows =
        let ia = arm_of m lawful number bound of_unit in
        record { from = few_rows ia.arm.from bound.from.now ia.is.from; join = few_joined ia.arm.join (joined_of bound) ia.is.join }

    values_of_join : (ia : IsArmOf m lawful number bound) (j : Option Join) (o : Option Frozen) → IsJoined m j o
        → map (right_value (old_of m) ia.arm) (rows_of_join (old_of m) j) ≡ values_at (places_in_join bound) (entries_of o)
    values_of_join ia None None is = refl
    values_of_join ia None (Some f) is = absurd is
    values_of_join ia (Some j) None is = absurd is
    values_of_join ia (Some j) (Some f) is =
        values_alike (right_value (old_of m) ia.arm) (places_in_join bound) (table_rows (old_of m) j.table) f.rows (right_cells m bound.target ia.arm bound ia.is) (rows_found m j.table f is)

    values_alone : (ia : IsArmOf m lawful number bound) (j : Option Join) (o : Option Frozen) → j ≡ None → IsJoined m j o → values_at (places_in_join bound) (entries_of o) ≡ []
    values_alone ia None None alone is = refl
    values_alone ia None (Some f) alone is = absurd is
    values_alone ia (Some j) o alone is = absurd cc

    values_are : (ia : IsArmOf m lawful number bound) (kind : ArmKind) → arm_kind (old_of m) ia.arm ≡ kind → is_by_row kind ≡ false → anchor_values (old_of m) ia.arm kind ≡ arm_values bound
    values_are ia ByFrom e values = absurd (false≢true (sym values))
    values_are ia ByJoin e values = absurd (false≢true (sym values))
    values_are ia ByGroup e values =
        let alone = alone_by_group (old_of m) ia.arm ia.allowed.alone e in
        values_alike (group_value (old_of m) ia.arm) (places_in_from bound) (table_rows (old_of m) ia.arm.from) bound.from.now.rows
        (group_cells m bound.target ia.arm bound ia.is alone) (from_rows m bound.target ia.arm bound ia.is)
        ∙ sym (append-nil (values_at (places_in_from bound) bound.from.now.rows))
        ∙ ap (λ vs. values_at (places_in_from bound) bound.from.now.rows ++ vs) (sym (values_alone ia ia.arm.join (joined_of bound) alone ia.is.join))
    values_are ia ByPair e values =
        ap₂ (λ vs ws. vs ++ ws)
        (values_alike (left_value (old_of m) ia.arm) (places_in_from bound) (table_rows (old_of m) ia.arm.from) bound.from.now.rows
        (left_cells m bound.target ia.arm bound ia.is e) (from_rows m bound.target ia.arm bound ia.is))
        (values_of_join ia ia.arm.join (joined_of bound) ia.is.join)

    anchors_are : (ia : IsArmOf m lawful number bound) → anchors_of (old_of m) (values_unit ia.target ia.arm) ≡ map Group (arm_values bound)
    anchors_are ia = ap (map Group) (values_are ia (arm_kind (old_of m) ia.arm) refl ia.unit.by_values)

    -- the anchors of a unit by values
    pub anchors_by_values : anchors_in m number ≡ length (arm_values bound)
    anchors_by_values =
        let ia = arm_of m lawful number bound of_unit in
        ap (λ o. unwrap_or (option_map (λ u. length (anchors_of (old_of m) u)) o) 0) ia.at ∙ ap length (anchors_are ia) ∙ length-map (arm_values bound) Group

    pub anchored_by_values : (anchor : ℕ) → anchored_at m number anchor ≡ option_map (granule number) (option_map Group (slice_get (arm_values bound) anchor))
    anchored_by_values anchor =
        let ia = arm_of m lawful number bound of_unit in
        ap (option_and_then (λ u. option_map (granule number) (slice_get (anchors_of (old_of m) u) anchor))) ia.at
        ∙ ap (λ ps. option_map (granule number) (slice_get ps anchor)) (anchors_are ia)
        ∙ ap (option_map (granule number)) (slice_get-map Group (arm_values bound) anchor)

  module _ (number : ℕ) (none : IsOfUnit m (unit_at m number) None) where
    -- a unit that has no arm by values goes by the rows of its driver
    pub rows_at_number : (unit : Planned) → slice_get m.plan.units number ≡ Some unit → unit_at m number ≡ Some (rows_unit unit.driver)
    rows_at_number unit at = of unit.kind refl
      where
        here : unit_at m number ≡ Some (unit_form m.plan.migrate unit)
        here = unit_at_number m lawful number ∙ ap (option_map (unit_form m.plan.migrate)) at

        no_arm : (kind : UnitKind) → unit.kind ≡ kind → IsOfUnit m (Some (form_by m.plan.migrate kind unit.driver unit.arms)) None
        no_arm kind is = subst (λ o. IsOfUnit m o None) (here ∙ ap (λ k. Some (form_by m.plan.migrate k unit.driver unit.arms)) is) none

        of : (kind : UnitKind) → unit.kind ≡ kind → unit_at m number ≡ Some (rows_unit unit.driver)
        of Rows is = here ∙ ap (λ k. Some (form_by m.plan.migrate k unit.driver unit.arms)) is
        of Groups is = absurd (no_arm Groups is)
        of Joins is = absurd (no_arm Joins is)

    pub anchors_by_rows : (unit : Planned) → slice_get m.plan.units number ≡ Some unit → anchors_in m number ≡ length (table_rows (old_of m) unit.driver)
    anchors_by_rows unit at =
        ap (λ o. unwrap_or (option_map (λ u. length (anchors_of (old_of m) u)) o) 0) (rows_at_number unit at) ∙ count_is (old_of m) (rows_unit unit.driver)

    -- the anchors of rows stand at their positions
    pub anchored_by_rows : (anchor : ℕ) → anchored_at m number anchor ≡ (if nat_lt anchor (anchors_in m number) then Some (granule number (Row anchor)) else None)
    anchored_by_rows anchor = of (unit_at m number) none
      where
        chosen : (b : Bool) → option_map (granule number) (if b then Some (Row anchor) else None) ≡ (if b then Some (granule number (Row anchor)) else None)
        chosen true = refl
        chosen false = refl

        never : nat_lt anchor 0 ≡ false
        never = grind (arith, nat_tests)

        of : (o : Option UnitForm) → IsOfUnit m o None
            → option_and_then (λ u. option_map (granule number) (slice_get (anchors_of (old_of m) u) anchor)) o
            ≡ (if nat_lt anchor (unwrap_or (option_map (λ u. length (anchors_of (old_of m) u)) o) 0) then Some (granule number (Row anchor)) else None)
        of None is = ap (λ b. if b then Some (granule number (Row anchor)) else None) (sym never)
        of (Some (rows_unit driver)) is =
            ap (option_map (granule number)) (place_is (old_of m) (rows_unit driver) anchor)
            ∙ chosen (nat_lt anchor (length (table_rows (old_of m) driver)))
            ∙ ap (λ n. if nat_lt anchor n then Some (granule number (Row anchor)) else None) (sym (count_is (old_of m) (rows_unit driver)))
        of (Some (values_unit t arm)) is = absurd is

  -- there are no anchors of a unit that is not there
  pub anchors_past : (number : ℕ) → length m.plan.units ≤ number → anchors_in m number ≡ 0
  anchors_past number past =
      ap (λ o. unwrap_or (option_map (λ u. length (anchors_of (old_of m) u)) o) 0) (unit_at_number m lawful number ∙ ap (option_map (unit_form m.plan.migrate)) (slice_get_past m.plan.units number past))

  pub narrow_arm : (number : ℕ) (bound : FrozenArm) → IsOfUnit m (unit_at m number) (Some bound) → IsTrue (is_narrow bound.from.now.table)
  narrow_arm number bound of_unit = (has_values m lawful number bound of_unit).narrow
