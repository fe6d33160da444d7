-- The granules of a migration, unit by unit.
use Rattle.std.proofs.Common.{◌≡◌, ℕ, ◌+◌, ◌<◌, ◌≤◌, List, [], ◌++◌, Option, Some, None, length, map, flat_map, drop, slice_get, unwrap_or, refl, sym, ap, ap₂, ◌∙◌}
use Rattle.std.specs.List.{enumerate_from, range_with_len}
use Rattle.std.specs.Option.{option_and_then, option_map}
use Rattle.std.proofs.lemmas.Bool.{false≢true}
use Rattle.std.proofs.lemmas.List.{append-nil, at_drop_more, drop_all, length-map, map-id}
use Rattle.std.proofs.lemmas.List.FromFn.{length-range_with_len}
use Rattle.std.proofs.lemmas.Option.{same_Some, slice_get-get_or, slice_get-map}
use Rattle.std.proofs.lemmas.Simd.{map-map}
use Rattle.bf_base.specs.declared.granule.Granule.{Granule}
use Rattle.bf_base.specs.declared.granule.Place.TheVariants.{Group, Row}
use Rattle.bf_base.specs.declared.value.Value.{Value}
use Rattle.bf_tree.specs.declared.migration.Arm.{Arm}
use Rattle.bf_tree.specs.declared.migration.Join.{Join}
use Rattle.bf_tree.specs.declared.migration.Target.{Target}
use Rattle.bf_tree.specs.declared.plan.ArmKind.{ArmKind}
use Rattle.bf_tree.specs.declared.plan.ArmKind.TheVariants.{ByFrom, ByJoin, ByPair, ByGroup}
use Rattle.bf_sql.specs.Database.{Database, table_rows}
use Rattle.bf_sql.specs.migrations.Granules.{UnitForm, anchor_values, anchors_of, granule, places_in, right_value, rows_unit, values_unit}
use Rattle.bf_sql.specs.migrations.Images.{rows_of_join}
use Rattle.bf_sql.specs.migrations.MigrationObjections.{is_by_row}
use Rattle.bf_sql.specs.migrations.Targets.{arm_kind}
use Rattle.bf_index.specs.ByValues.{Valued, by_value, positions_of, value_of}
use Rattle.bf_image.specs.Migrations.{IsLawfulMigration, anchors_in, from_values, old_of, unit_at, unit_index, units_in, value_indexes}
use Rattle.bf_image.specs.PlannedUnits.{unit_form}
use Rattle.bf_image.specs.declared.migration.Migration.{Migration}
use Rattle.bf_image.specs.declared.value_indexes.UnitIndex.{UnitIndex}
use Rattle.bf_image.proofs.planning.Units.{IsUnitOf, unit_among, units_stand_for}
use Rattle.bf_image.proofs.planning.Within.{allowed, alone_by_group}
use Rattle.bf_transpose.specs.InOrder.{values_in}
use Rattle.bf_transpose.specs.Scans.{granules_in, row_granules, value_granules, values_indexed, values_of_both}
use Rattle.bf_transpose.proofs.Rising.{in_parts}

-- an index has the values of its rows in order
values_of_index : (vs : List (List Value)) → map value_of (by_value vs) ≡ values_in vs
values_of_index vs = map-map value_of (λ (value : List Value). (value, positions_of value vs)) (values_in vs) ∙ map-id (values_in vs)

module _ (m : Migration) where
  abbrev of_unit : ℕ × UnitForm → List Granule
  of_unit u = map (granule u.0) (places_in (old_of m) u.1)

  -- the granules of the units from one on
  abbrev pub granules_from : ℕ → List Granule
  granules_from unit = flat_map of_unit (enumerate_from unit (drop unit (units_in m)))

  pub granules_more : (unit : ℕ) → unit < length (units_in m) → granules_from unit ≡ granules_in m unit ++ granules_from (unit + 1)
  granules_more unit within =
      let d : UnitForm = rows_unit [] in
      at_drop_more (λ us. flat_map of_unit (enumerate_from unit us)) (units_in m) unit d within
      ∙ ap (λ o. unwrap_or (option_map (λ form. map (granule unit) (places_in (old_of m) form)) o) [] ++ granules_from (unit + 1)) (sym (slice_get-get_or (units_in m) unit d within))

  pub no_more_granules : (unit : ℕ) → length (units_in m) ≤ unit → granules_from unit ≡ []
  no_more_granules unit past = ap (λ us. flat_map of_unit (enumerate_from unit us)) (drop_all unit (units_in m) past)

  pub units_counted : IsLawfulMigration m → length (units_in m) ≡ length m.plan.units
  units_counted lawful = ap (λ (us : List UnitForm). length us) (sym (units_stand_for m lawful)) ∙ length-map m.plan.units (unit_form m.plan.migrate)

  module _ (unit : ℕ) where
    abbrev old : Database
    old = old_of m

    granules_at : (o : Option UnitForm) → unit_at m unit ≡ o → granules_in m unit ≡ unwrap_or (option_map (λ form. map (granule unit) (places_in old form)) o) []
    granules_at o is = ap (λ o. unwrap_or (option_map (λ form. map (granule unit) (places_in old form)) o) []) is

    index_known : (o : Option UnitForm) → unit_at m unit ≡ o → slice_get (value_indexes m) unit ≡ option_map (unit_index old) o
    index_known o is = slice_get-map (unit_index old) (units_in m) unit ∙ ap (option_map (unit_index old)) is

    -- a unit that goes by rows
    pub rows_of_unit : None ≡ option_and_then (λ index. index) (slice_get (value_indexes m) unit) → row_granules unit (anchors_in m unit) ≡ granules_in m unit
    rows_of_unit none = by_form (unit_at m unit) refl
      where
        counted : (o : Option UnitForm) → unit_at m unit ≡ o → anchors_in m unit ≡ unwrap_or (option_map (λ u. length (anchors_of old u)) o) 0
        counted o is = ap (λ o. unwrap_or (option_map (λ u. length (anchors_of old u)) o) 0) is

        by_form : (o : Option UnitForm) → unit_at m unit ≡ o → row_granules unit (anchors_in m unit) ≡ granules_in m unit
        by_form None is = ap (row_granules unit) (counted None is) ∙ sym (granules_at None is)
        by_form (Some (rows_unit driver)) is =
            let count = length (table_rows old driver) in
            ap (row_granules unit) (counted (Some (rows_unit driver)) is ∙ (length-map (range_with_len 0 count) Row ∙ length-range_with_len 0 count))
            ∙ (sym (map-map (granule unit) Row (range_with_len 0 count)) ∙ sym (granules_at (Some (rows_unit driver)) is))
        by_form (Some (values_unit t arm)) is =
            let there = none ∙ ap (option_and_then (λ index. index)) (index_known (Some (values_unit t arm)) is) in
            absurd cc

    -- the unit of an index
    pub record IsIndexed (index : UnitIndex) : Type 0 where
      pub target : Target
      pub arm : Arm
      pub at : unit_at m unit ≡ Some (values_unit target arm)
      pub from : index.from ≡ by_value (from_values old arm (arm_kind old arm))
      pub join : index.join ≡ option_map (λ j. by_value (map (right_value old arm) (table_rows old j.table))) arm.join

    pub indexed : (index : UnitIndex) → Some index ≡ option_and_then (λ index. index) (slice_get (value_indexes m) unit) → IsIndexed index
    indexed index some = by_form (unit_at m unit) refl
      where
        by_form : (o : Option UnitForm) → unit_at m unit ≡ o → IsIndexed index
        by_form None is =
            let there = some ∙ ap (option_and_then (λ index. index)) (index_known None is) in
            absurd cc
        by_form (Some (rows_unit driver)) is =
            let there = some ∙ ap (option_and_then (λ index. index)) (index_known (Some (rows_unit driver)) is) in
            absurd cc
        by_form (Some (values_unit t arm)) is =
            let there = some ∙ ap (option_and_then (λ index. index)) (index_known (Some (values_unit t arm)) is) in
            let same = same_Some index _ there in
            record { target = t; arm = arm; at = is; from = ap (λ (i : UnitIndex). i.from) same; join = ap (λ (i : UnitIndex). i.join) same }

    module _ (lawful : IsLawfulMigration m) (index : UnitIndex) (some : Some index ≡ option_and_then (λ index. index) (slice_get (value_indexes m) unit)) where
      abbrev pub its : IsIndexed index
      its = indexed index some

      abbrev of_join : Option Join → Option (List Valued)
      of_join o = option_map (λ j. by_value (map (right_value old its.arm) (table_rows old j.table))) o

      among : IsUnitOf m lawful its.target its.arm
      among = unit_among m lawful unit its.target its.arm its.at

      -- the values of a unit's places
      abbrev pub anchored : List (List Value)
      anchored = values_in (anchor_values old its.arm (arm_kind old its.arm))

      pub granules_anchored : value_granules unit anchored ≡ granules_in m unit
      granules_anchored = sym (map-map (granule unit) Group anchored) ∙ sym (granules_at (Some (values_unit its.target its.arm)) its.at)

      pub from_is : (kind : ArmKind) → arm_kind old its.arm ≡ kind → map value_of index.from ≡ values_in (from_values old its.arm kind)
      from_is kind is = ap (map value_of) (its.from ∙ ap (λ k. by_value (from_values old its.arm k)) is) ∙ values_of_index (from_values old its.arm kind)

      alone_in_group : arm_kind old its.arm ≡ ByGroup → its.arm.join ≡ None
      alone_in_group is = alone_by_group old its.arm (allowed old m.plan.migrate its.target its.arm lawful.lawful among.target_among among.arm_among).alone is

      joined_by : (kind : ArmKind) → arm_kind old its.arm ≡ kind → (o : Option Join) → its.arm.join ≡ o → (joined : List Valued) → of_join o ≡ Some joined
          → values_in (map value_of index.from ++ map value_of joined) ≡ values_in (anchor_values old its.arm kind)
      joined_by kind is None none joined there = absurd cc
      joined_by ByFrom is (Some j) some joined there = absurd (false≢true (sym among.by_values ∙ ap is_by_row is))
      joined_by ByJoin is (Some j) some joined there = absurd (false≢true (sym among.by_values ∙ ap is_by_row is))
      joined_by ByGroup is (Some j) some joined there = let none = alone_in_group is in absurd cc
      joined_by ByPair is (Some j) some joined there =
          let lefts = from_values old its.arm ByPair in
          let rights = map (right_value old its.arm) (table_rows old j.table) in
          let right_is : map value_of joined ≡ values_in rights = ap (map value_of) (sym (same_Some (by_value rights) joined there)) ∙ values_of_index rights in
          ap₂ (λ ls rs. values_in (ls ++ rs)) (from_is ByPair is) right_is
          ∙ (in_parts lefts rights ∙ ap (λ (o : Option Join). values_in (lefts ++ map (right_value old its.arm) (rows_of_join old o))) (sym some))

      -- where there is a JOIN, the places stand at the values of both tables
      granules_joined : (joined : List Valued) → index.join ≡ Some joined → value_granules unit (values_in (map value_of index.from ++ map value_of joined)) ≡ granules_in m unit
      granules_joined joined there = ap (value_granules unit) (joined_by (arm_kind old its.arm) refl its.arm.join refl joined (sym its.join ∙ there)) ∙ granules_anchored

      alone_by : (kind : ArmKind) → arm_kind old its.arm ≡ kind → (o : Option Join) → its.arm.join ≡ o → None ≡ of_join o → map value_of index.from ≡ values_in (anchor_values old its.arm kind)
      alone_by kind is (Some j) some none = absurd cc
      alone_by ByFrom is None none' none = from_is ByFrom is
      alone_by ByJoin is None none' none = from_is ByJoin is
      alone_by ByGroup is None none' none = from_is ByGroup is
      alone_by ByPair is None none' none =
          let lefts = from_values old its.arm ByPair in
          from_is ByPair is
          ∙ (ap values_in (sym (append-nil lefts)) ∙ ap (λ (o : Option Join). values_in (lefts ++ map (right_value old its.arm) (rows_of_join old o))) (sym none'))

      -- and else at those of FROM
      granules_alone : None ≡ index.join → value_granules unit (map value_of index.from) ≡ granules_in m unit
      granules_alone none = ap (value_granules unit) (alone_by (arm_kind old its.arm) refl its.arm.join refl (none ∙ its.join)) ∙ granules_anchored

      pub granules_indexed : value_granules unit (values_indexed index) ≡ granules_in m unit
      granules_indexed = of index.join refl
        where
          of : (o : Option (List Valued)) → index.join ≡ o → value_granules unit (values_of_both index.from o) ≡ granules_in m unit
          of None is = granules_alone (sym is)
          of (Some joined) is = granules_joined joined is
