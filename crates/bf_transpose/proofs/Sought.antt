-- Which granules give a row of a target that a condition may pick.
use Rattle.std.proofs.Common.{◌≡◌, ℕ, ◌<◌, Bool, true, false, ◌&&◌, ◌||◌, cond, eqb, List, [], ◌∷◌, Option, Some, None, ◌⊎◌, inl, inr, length, map, filter, flat_map, slice_get, unwrap_or, refl, sym, ap, ap₂, subst, ◌∙◌}
use Rattle.std.specs.Prelude.{slice_index_or}
use Rattle.std.specs.List.{AllByRecursion, list_any}
use Rattle.std.specs.Option.{option_and_then, option_map}
use Rattle.std.proofs.lemmas.Bool.{or_from, or_parts}
use Rattle.std.proofs.lemmas.List.Folds.{list_any-append}
use Rattle.std.proofs.lemmas.Option.{slice_get_within}
use Rattle.bf_base.specs.declared.granule.Granule.{Granule}
use Rattle.bf_base.specs.declared.granule.Place.{Place}
use Rattle.bf_base.specs.declared.granule.Place.TheVariants.{Group, Row}
use Rattle.bf_base.specs.declared.value.Value.{Value}
use Rattle.bf_base.specs.Lists.{has, same_key, same_name}
use Rattle.bf_base.specs.Tables.{cell}
use Rattle.bf_base.proofs.Parts.{filter_none}
use Rattle.bf_tree.specs.Evaluation.{holds_on}
use Rattle.bf_tree.specs.Trees.{Cond}
use Rattle.bf_tree.specs.declared.migration.Arm.{Arm}
use Rattle.bf_tree.specs.declared.migration.Join.{Join}
use Rattle.bf_tree.specs.declared.migration.Migrate.{Migrate}
use Rattle.bf_tree.specs.declared.migration.Target.{Target}
use Rattle.bf_tree.specs.declared.plan.ArmKind.{ArmKind}
use Rattle.bf_tree.specs.declared.plan.ArmKind.TheVariants.{ByFrom, ByJoin, ByPair, ByGroup}
use Rattle.bf_tree.specs.declared.plan.Unit.{Unit as Planned}
use Rattle.bf_tree.specs.declared.plan.UnitKind.{UnitKind}
use Rattle.bf_tree.specs.declared.plan.UnitKind.TheVariants.{Rows, Groups, Joins}
use Rattle.bf_sql.specs.Conditions.{condition_of}
use Rattle.bf_sql.specs.Database.{Database, table_rows}
use Rattle.bf_sql.specs.Scopes.{read_in}
use Rattle.bf_sql.specs.migrations.Granules.{UnitForm, anchor_values, from_with, granule, join_with, left_value, part_at, part_of, places_in, right_value, values_unit}
use Rattle.bf_sql.specs.migrations.Images.{arm_rows, groups_by, item_over, matches_of_join, rows_of_join}
use Rattle.bf_sql.specs.migrations.Plans.{rows_unit_of}
use Rattle.bf_sql.specs.migrations.Targets.{arm_kind, arm_scope}
use Rattle.bf_index.specs.ByValues.{value_of}
use Rattle.bf_image.specs.Migrations.{ArePart, IsLawfulMigration, from_values, old_of, target_at, unit_at, value_indexes}
use Rattle.bf_image.specs.PlannedUnits.{form_by, target_named, values_form}
use Rattle.bf_image.specs.declared.migration.Migration.{Migration}
use Rattle.bf_image.specs.declared.value_indexes.UnitIndex.{UnitIndex}
use Rattle.bf_image.proofs.owning.Armed.{HasArmedTarget, IsArmed, armed_within, part_armed}
use Rattle.bf_image.proofs.owning.Targets.{name_tells_number}
use Rattle.bf_image.proofs.parting.UnitParts.{part, part_by_rows, part_is, part_planned}
use Rattle.bf_image.proofs.planning.Driven.{IsNamed, driven_named, part_by_numbers, rows_by_numbers}
use Rattle.bf_image.proofs.planning.Units.{by_values, planned_as}
use Rattle.bf_transpose.specs.InOrder.{values_in}
use Rattle.bf_transpose.specs.Scans.{gives, granules_in, has_arm, is_sought, value_granules}
use Rattle.bf_transpose.proofs.Rising.{filtered_among}
use Rattle.bf_transpose.proofs.Units.{anchored, from_is, granules_anchored, its}

each_of_mapped : {X Y : Type 0} (P : Y → Type 0) (Q : X → Type 0) (f : X → Y) → ((x : X) → P (f x) → Q x) → (xs : List X) → AllByRecursion P (map f xs) → AllByRecursion Q xs
each_of_mapped P Q f one [] all = tt
each_of_mapped P Q f one (x ∷ xs) all = (one x all.0, each_of_mapped P Q f one xs all.1)

pub filter_mapped : {X Y : Type 0} (p : Y → Bool) (f : X → Y) (xs : List X) → filter p (map f xs) ≡ map f (filter (λ x. p (f x)) xs)
filter_mapped p f [] = refl
filter_mapped p f (x ∷ xs) = elim (p (f x)) as (λ b. cond b (f x ∷ filter p (map f xs)) (filter p (map f xs)) ≡ map f (cond b (x ∷ filter (λ x. p (f x)) xs) (filter (λ x. p (f x)) xs))) [
  | true ↦ ap (λ ys. f x ∷ ys) (filter_mapped p f xs)
  | false ↦ filter_mapped p f xs
]

module _ (m : Migration) (lawful : IsLawfulMigration m) (target : ℕ) (there : target < length m.plan.migrate.targets) (wanted : Cond ℕ) where
  abbrev old : Database
  old = old_of m

  abbrev q : Migrate
  q = m.plan.migrate

  abbrev t : Target
  t = target_at m target

  abbrev passes : List Value → Bool
  passes row = holds_on (cell row) wanted

  abbrev named : ℕ × List Value → Target × List Value
  named p = (target_at m p.0, p.1)

  abbrev is_named : Target × List Value → Bool
  is_named p = same_name p.0.name t.name

  abbrev IsTold : ℕ × List Value → Type 0
  IsTold p = is_named (named p) ≡ eqb p.0 target

  told_by_number : (p : ℕ × List Value) → IsArmed (target_at m p.0) → IsTold p
  told_by_number p armed = name_tells_number m lawful p.0 target (armed_within m p.0 armed) there

  any_named : (rows : List (ℕ × List Value)) → AllByRecursion IsTold rows → list_any passes (map (λ p. p.1) (filter is_named (map named rows))) ≡ list_any (is_sought m target wanted) rows
  any_named [] told = refl
  any_named (p ∷ rows) told = of (is_named (named p)) ∙ ap₂ (λ b rest. (b && passes p.1) || rest) told.0 (any_named rows told.1)
    where
      of : (b : Bool) → list_any passes (map (λ p. p.1) (cond b (named p ∷ filter is_named (map named rows)) (filter is_named (map named rows))))
          ≡ ((b && passes p.1) || list_any passes (map (λ p. p.1) (filter is_named (map named rows))))
      of true = refl
      of false = refl

  -- a granule gives such a row where its rows have it
  pub gives_by_number : (g : Granule) (rows : List (ℕ × List Value)) → ArePart m g rows → list_any (is_sought m target wanted) rows ≡ gives m target wanted g
  gives_by_number g rows part =
      let armed : AllByRecursion (HasArmedTarget old q) (map named rows) = subst (λ ps. AllByRecursion (HasArmedTarget old q) ps) (sym part) (part_armed old q g) in
      sym (ap (λ ps. list_any passes (map (λ p. p.1) (filter is_named ps))) (sym part)
      ∙ any_named rows (each_of_mapped (HasArmedTarget old q) IsTold named told_by_number rows armed))

  -- a granule without a row of the target gives none
  none_gives : (g : Granule) → list_any is_named (part_of old q g) ≡ false → gives m target wanted g ≡ false
  none_gives g none = ap (λ ps. list_any passes (map (λ p. p.1) ps)) (filter_none is_named (part_of old q g) none)

  unnamed_rows : (s : Target) → same_name s.name t.name ≡ false → (rows : List (List Value)) → list_any is_named (map (λ row. (s, row)) rows) ≡ false
  unnamed_rows s other [] = refl
  unnamed_rows s other (row ∷ rows) = or_from _ _ other (unnamed_rows s other rows)

  pair_unnamed : (pair : ℕ × ℕ) → IsNamed q pair → eqb pair.0 target ≡ false → same_name (target_named q pair.0).name t.name ≡ false
  pair_unnamed pair is other = name_tells_number m lawful pair.0 target (slice_get_within q.targets pair.0 (target_named q pair.0) is.of) there ∙ other

  module _ (driver : List ℕ) (at : ℕ) where
    none_of_arms : (pairs : List (ℕ × ℕ)) → AllByRecursion (IsNamed q) pairs → list_any (λ pair. eqb pair.0 target) pairs ≡ false → list_any is_named (flat_map (rows_by_numbers old q driver at) pairs) ≡ false
    none_of_arms [] all none = refl
    none_of_arms (p ∷ ps) all none =
        let parts = or_parts _ _ none in
        list_any-append is_named (rows_by_numbers old q driver at p) (flat_map (rows_by_numbers old q driver at) ps)
        ∙ or_from _ _ (unnamed_rows (target_named q p.0) (pair_unnamed p all.0 parts.0) _) (none_of_arms ps all.1 parts.1)

  module _ (unit : ℕ) where
    abbrev without : Option Planned → Bool
    without o = unwrap_or (option_map (λ (planned : Planned). list_any (λ arm. eqb arm.0 target) planned.arms) o) false

    module _ (planned : Planned) (is : slice_get m.plan.units unit ≡ Some planned) (none : list_any (λ arm. eqb arm.0 target) planned.arms ≡ false) where
      of_kind : (kind : UnitKind) (place : Place) → planned.kind ≡ kind → part m unit place ≡ part_at old q (form_by q kind planned.driver planned.arms) place
      of_kind kind place at = part_planned m unit place lawful (Some planned) is ∙ ap (λ k. part_at old q (form_by q k planned.driver planned.arms) place) at

      none_valued : (planned.kind ≡ Groups) ⊎ (planned.kind ≡ Joins) → (place : Place) → list_any is_named (part_at old q (values_form q (slice_index_or planned.arms 0 (0, 0))) place) ≡ false
      none_valued is_kind (Row at) = refl
      none_valued is_kind (Group value) =
          let only = by_values m lawful unit planned is is_kind in
          let front : slice_index_or planned.arms 0 (0, 0) ≡ only.pair = ap (λ ps. slice_index_or ps 0 (0, 0)) only.one in
          let other : eqb only.pair.0 target ≡ false = (or_parts _ _ (ap (list_any (λ (arm : ℕ × ℕ). eqb arm.0 target)) (sym only.one) ∙ none)).0 in
          ap (λ pair. list_any is_named (part_at old q (values_form q pair) (Group value))) front
          ∙ unnamed_rows (target_named q only.pair.0) (pair_unnamed only.pair only.named other) _

      none_of_unit : (kind : UnitKind) → planned.kind ≡ kind → (place : Place) → list_any is_named (part m unit place) ≡ false
      none_of_unit Rows at (Row position) =
          let as_planned = planned_as m lawful unit planned is Rows at in
          let none_driven = ap (λ (u : Planned). list_any (λ (arm : ℕ × ℕ). eqb arm.0 target) u.arms) (sym as_planned) ∙ none in
          ap (list_any is_named) (part_by_rows m lawful unit position planned is at ∙ part_by_numbers old q planned.driver position)
          ∙ none_of_arms planned.driver position (rows_unit_of old q planned.driver).arms (driven_named old q planned.driver) none_driven
      none_of_unit Rows at (Group value) = ap (list_any is_named) (of_kind Rows (Group value) at)
      none_of_unit Groups at place = ap (list_any is_named) (of_kind Groups place at) ∙ none_valued (inl at) place
      none_of_unit Joins at place = ap (list_any is_named) (of_kind Joins place at) ∙ none_valued (inr at) place

    none_here : (o : Option Planned) → slice_get m.plan.units unit ≡ o → without o ≡ false → (place : Place) → list_any is_named (part m unit place) ≡ false
    none_here None is none place = ap (list_any is_named) (part_planned m unit place lawful None is)
    none_here (Some planned) is none place = none_of_unit planned is none planned.kind refl place

    -- a unit that has no arm of the target gives no such row at any place
    pub none_at_place : has_arm m target unit ≡ false → (place : Place) → gives m target wanted (granule unit place) ≡ false
    none_at_place none place = none_gives (granule unit place) (none_here (slice_get m.plan.units unit) refl none place)

    -- so it has no granule that gives one
    none_without_arm : has_arm m target unit ≡ false → (places : List Place) → filter (gives m target wanted) (map (granule unit) places) ≡ []
    none_without_arm none [] = refl
    none_without_arm none (place ∷ places) =
        ap (λ b. cond b (granule unit place ∷ filter (gives m target wanted) (map (granule unit) places)) (filter (gives m target wanted) (map (granule unit) places)))
        (none_at_place none place)
        ∙ none_without_arm none places

    pub none_in_unit : has_arm m target unit ≡ false → [] ≡ filter (gives m target wanted) (granules_in m unit)
    none_in_unit none = of (unit_at m unit)
      where
        of : (o : Option UnitForm) → [] ≡ filter (gives m target wanted) (unwrap_or (option_map (λ form. map (granule unit) (places_in old form)) o) [])
        of None = refl
        of (Some form) = sym (none_without_arm none (places_in old form))

    -- a value that no row of FROM has gives none either
    module _ (arm : Arm) (pairs : arm_kind old arm ≡ ByPair) where
      abbrev lefts : List (List Value)
      lefts = map (left_value old arm) (table_rows old arm.from)

      no_row : (value : List Value) (rows : List (List Value)) → has same_key (map (left_value old arm) rows) value ≡ false → filter (λ row. same_key value (left_value old arm row)) rows ≡ []
      no_row value [] none = refl
      no_row value (row ∷ rows) none = let parts = or_parts (same_key value (left_value old arm row)) (has same_key (map (left_value old arm) rows) value) none in rw parts.0 (no_row value rows parts.1)

      none_made : (join : List (List Value)) → arm_rows old arm [] join ≡ []
      none_made join =
          ap (λ (rows : List (List Value)). map (λ (rows : List (List Value)). map (item_over old arm rows) arm.items) (groups_by old arm (arm_kind old arm) rows)) (nothing arm.join)
          ∙ ap (λ (kind : ArmKind). map (λ (rows : List (List Value)). map (item_over old arm rows) arm.items) (groups_by old arm kind [])) pairs
        where
          nothing : (o : Option Join) → filter (λ row. holds_on (read_in (arm_scope old arm) row) (condition_of arm.cond)) (matches_of_join old arm [] join o) ≡ []
          nothing None = refl
          nothing (Some j) = refl

      none_paired : (value : List Value) → has same_key lefts value ≡ false → arm_rows old arm (from_with old arm (arm_kind old arm) value) (join_with old arm value) ≡ []
      none_paired value none =
          ap (λ (kind : ArmKind). arm_rows old arm (from_with old arm kind value) (join_with old arm value)) pairs
          ∙ (ap (λ (from : List (List Value)). arm_rows old arm from (join_with old arm value)) (no_row value (table_rows old arm.from) none) ∙ none_made (join_with old arm value))

    module _ (index : UnitIndex) (some : Some index ≡ option_and_then (λ index. index) (slice_get (value_indexes m) unit)) where
      abbrev arm_here : Arm
      arm_here = (its m unit lawful index some).arm

      abbrev finds : List Value → Bool
      finds value = gives m target wanted (granule unit (Group value))

      none_found : (is : arm_kind old arm_here ≡ ByPair) → (value : List Value) → has same_key (lefts arm_here is) value ≡ false → finds value ≡ false
      none_found is value none =
          let here = its m unit lawful index some in
          none_gives (granule unit (Group value))
          (ap (list_any is_named) (part_is m unit (Group value) (Some (values_unit here.target here.arm)) here.at
          ∙ ap (map (λ (row : List Value). (here.target, row))) (none_paired arm_here is value none)))

      among_from : (kind : ArmKind) → arm_kind old arm_here ≡ kind → filter finds (values_in (from_values old arm_here kind)) ≡ filter finds (values_in (anchor_values old arm_here kind))
      among_from ByFrom is = refl
      among_from ByJoin is = refl
      among_from ByGroup is = refl
      among_from ByPair is = filtered_among finds (lefts arm_here is) (map (right_value old arm_here) (rows_of_join old arm_here.join)) (none_found is)

      -- so the values of FROM are all that need be tried
      pub found_at_values : filter (gives m target wanted) (value_granules unit (map value_of index.from)) ≡ filter (gives m target wanted) (granules_in m unit)
      found_at_values =
          let kind = arm_kind old arm_here in
          ap (λ vs. filter (gives m target wanted) (value_granules unit vs)) (from_is m unit lawful index some kind refl)
          ∙ (filter_mapped (gives m target wanted) (λ value. granule unit (Group value)) (values_in (from_values old arm_here kind))
          ∙ (ap (value_granules unit) (among_from kind refl)
          ∙ (sym (filter_mapped (gives m target wanted) (λ value. granule unit (Group value)) (anchored m unit lawful index some))
          ∙ ap (filter (gives m target wanted)) (granules_anchored m unit lawful index some))))
