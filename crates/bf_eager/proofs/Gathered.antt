-- What is gathered are the rows of all granules, in another order.
use Rattle.std.proofs.Common.{◌≡◌, ℕ, Bool, true, false, cond, List, [], ◌∷◌, ◌++◌, Option, Some, None, map, filter, flat_map, unwrap_or, refl, sym, ap, ap₂, ◌∙◌}
use Rattle.std.specs.List.{enumerate_from, list_all}
use Rattle.std.specs.Option.{option_map}
use Rattle.std.proofs.lemmas.List.Folds.{flat_map-map, list_any-append}
use Rattle.std.proofs.lemmas.List.Concat.{flat_map-append}
use Rattle.std.proofs.lemmas.Bool.{or_left, or_parts}
use Rattle.bf_base.specs.declared.granule.Place.{Place}
use Rattle.bf_base.specs.declared.granule.Place.TheVariants.{Group}
use Rattle.bf_base.specs.declared.value.Value.{Value}
use Rattle.bf_base.specs.Distinct.{distinct}
use Rattle.bf_base.specs.Lists.{has, in_order, same_key}
use Rattle.bf_base.specs.Values.{key_cmp, key_cmp_total, key_cmp-IsAntisymmetric}
use Rattle.bf_base.proofs.Apart.{with_placed-items}
use Rattle.bf_base.proofs.Items.{SameItems, same_items, same_items_if, through, turned}
use Rattle.bf_tree.specs.declared.migration.Arm.{Arm}
use Rattle.bf_tree.specs.declared.migration.Join.{Join}
use Rattle.bf_tree.specs.declared.migration.Migrate.{Migrate}
use Rattle.bf_tree.specs.declared.migration.Target.{Target}
use Rattle.bf_tree.specs.declared.plan.ArmKind.{ArmKind}
use Rattle.bf_tree.specs.declared.plan.ArmKind.TheVariants.{ByFrom, ByJoin, ByPair, ByGroup}
use Rattle.bf_sql.specs.Database.{Database, table_rows}
use Rattle.bf_sql.specs.migrations.Granules.{UnitForm, anchor_values, from_with, granule, granules_of, join_with, left_value, part_at, part_of, places_in, right_value, rows_unit, values_unit}
use Rattle.bf_sql.specs.migrations.Images.{arm_rows, group_value, groups_by, item_over, matches_of_join, rows_of_join}
use Rattle.bf_sql.specs.migrations.Targets.{arm_kind, arm_scope}
use Rattle.bf_tree.specs.Evaluation.{holds_on}
use Rattle.bf_sql.specs.Conditions.{condition_of}
use Rattle.bf_sql.specs.Scopes.{read_in}
use Rattle.bf_index.specs.ByValues.{Valued, by_value, positions_of}
use Rattle.bf_image.proofs.cutting.Parts.{all_numbered}
use Rattle.bf_index.proofs.Bags.{blocks_alike, blocks_equal, blocks_filtered, blocks_same_items}
use Rattle.bf_index.proofs.Values.{values_among, values_in_order-apart, values_in_order-has}
use Rattle.bf_eager.specs.Gathering.{gathered, gathered_at, places_of_values}
use Rattle.bf_image.specs.Migrations.{from_values, old_of, units_in}
use Rattle.bf_image.specs.declared.migration.Migration.{Migration}

abbrev values_in : List (List Value) → List (List Value)
values_in vs = in_order key_cmp (λ v. v) (distinct same_key vs)

module _ (old : Database) (m : Migrate) where
  abbrev at_places : UnitForm → List Place → List (Target × List Value)
  at_places form places = flat_map (part_at old m form) places

  -- by values, the places are those of the values
  value_places : (vs : List (List Value)) → places_of_values (by_value vs) ≡ map Group (values_in vs)
  value_places vs = twice (values_in vs)
    where
      twice : (ks : List (List Value)) → map (λ (entry : Valued). Group entry.0) (map (λ value. (value, positions_of value vs)) ks) ≡ map Group ks
      twice [] = refl
      twice (k ∷ ks) = ap (λ ps. Group k ∷ ps) (twice ks)

  -- a value that no row of FROM has makes no pair
  module _ (t : Target) (arm : Arm) (pairs : arm_kind old arm ≡ ByPair) where
    abbrev lefts : List (List Value)
    lefts = map (left_value old arm) (table_rows old arm.from)

    no_row : (value : List Value) (rows : List (List Value)) → has same_key (map (left_value old arm) rows) value ≡ false → filter (λ row. same_key value (left_value old arm row)) rows ≡ []
    no_row value [] none = refl
    no_row value (row ∷ rows) none = let parts = or_parts (same_key value (left_value old arm row)) (has same_key (map (left_value old arm) rows) value) none in rw parts.0 (no_row value rows parts.1)

    none_made : (join : List (List Value)) → arm_rows old arm [] join ≡ []
    none_made join =
        ap (λ (rows : List (List Value)). map (λ (rows : List (List Value)). map (item_over old arm rows) arm.items) (groups_by old arm (arm_kind old arm) rows)) (nothing arm.join)
        ∙ ap (λ (kind : ArmKind). map (λ (rows : List (List Value)). map (item_over old arm rows) arm.items) (groups_by old arm kind [])) pairs
      where
        nothing : (o : Option Join) → filter (λ row. holds_on (read_in (arm_scope old arm) row) (condition_of arm.cond)) (matches_of_join old arm [] join o) ≡ []
        nothing None = refl
        nothing (Some j) = refl

    abbrev made_of : List Value → List (Target × List Value)
    made_of value = part_at old m (values_unit t arm) (Group value)

    no_pair : (value : List Value) → has same_key lefts value ≡ false → made_of value ≡ []
    no_pair value none =
        ap (λ (kind : ArmKind). map (λ (row : List Value). (t, row)) (arm_rows old arm (from_with old arm kind value) (join_with old arm value))) pairs
        ∙ (ap (λ (from : List (List Value)). map (λ (row : List Value). (t, row)) (arm_rows old arm from (join_with old arm value))) (no_row value (table_rows old arm.from) none)
        ∙ ap (map (λ (row : List Value). (t, row))) (none_made (join_with old arm value)))

    abbrev rights : List (List Value)
    rights = map (right_value old arm) (rows_of_join old arm.join)

    there_too : (value : List Value) → has same_key lefts value ≡ true → has same_key (values_in (lefts ++ rights)) value ≡ true
    there_too value there = values_in_order-has key_cmp_total key_cmp-IsAntisymmetric (lefts ++ rights) value ∙ (list_any-append (same_key value) lefts rights ∙ or_left _ _ there)

    only_lefts : (value : List Value) → made_of value ≡ cond (has same_key lefts value) (made_of value) []
    only_lefts value = either (has same_key lefts value) refl
      where
        either : (b : Bool) → has same_key lefts value ≡ b → made_of value ≡ cond b (made_of value) []
        either true is = refl
        either false is = no_pair value is

    pub pairs_alike : SameItems (at_places (values_unit t arm) (map Group (values_in lefts))) (at_places (values_unit t arm) (map Group (values_in (lefts ++ rights))))
    pairs_alike =
        let all = values_in (lefts ++ rights) in
        let kept = flat_map-map (part_at old m (values_unit t arm)) Group all ∙ (blocks_equal made_of (λ value. cond (has same_key lefts value) (made_of value) []) only_lefts all ∙ sym (blocks_filtered made_of (has same_key lefts) all)) in
        through (same_items_if _ _ (flat_map-map (part_at old m (values_unit t arm)) Group (values_in lefts)))
        (through (turned (blocks_same_items made_of (with_placed-items key_cmp_total (λ (v : List Value). v) [] (distinct same_key lefts))))
        (through (turned (blocks_same_items made_of (values_among key_cmp_total key_cmp-IsAntisymmetric lefts all (values_in_order-apart key_cmp_total key_cmp-IsAntisymmetric (lefts ++ rights)) there_too)))
        (same_items_if _ _ (sym kept))))

  -- each unit has the same rows
  unit_alike : (form : UnitForm) → SameItems (at_places form (gathered_at old form)) (at_places form (places_in old form))
  unit_alike (rows_unit driver) = same_items (at_places (rows_unit driver) (places_in old (rows_unit driver)))
  unit_alike (values_unit t arm) =
      through (same_items_if _ _ (ap (at_places (values_unit t arm)) (value_places (from_values old arm (arm_kind old arm))))) (by_kind (arm_kind old arm) refl)
    where
      by_kind : (kind : ArmKind) → arm_kind old arm ≡ kind
          → SameItems (at_places (values_unit t arm) (map Group (values_in (from_values old arm kind)))) (at_places (values_unit t arm) (map Group (values_in (anchor_values old arm kind))))
      by_kind ByFrom is = same_items (at_places (values_unit t arm) [])
      by_kind ByJoin is = same_items (at_places (values_unit t arm) [])
      by_kind ByGroup is = same_items (at_places (values_unit t arm) (map Group (values_in (map (group_value old arm) (table_rows old arm.from)))))
      by_kind ByPair is = pairs_alike t arm is

module _ (m : Migration) where
  abbrev old : Database
  old = old_of m

  abbrev q : Migrate
  q = m.plan.migrate

  abbrev all_forms : UnitForm → Bool
  all_forms form = true

  every : (forms : List UnitForm) → list_all all_forms forms ≡ true
  every [] = refl
  every (form ∷ forms) = every forms

  by_forms : (places : UnitForm → List Place) → flat_map (λ u. flat_map (λ place. part_of old q (granule u.0 place)) (places u.1)) (enumerate_from 0 (units_in m)) ≡ flat_map (λ form. flat_map (part_at old q form) (places form)) (units_in m)
  by_forms places = all_numbered (λ o form. flat_map (λ place. unwrap_or (option_map (λ unit. part_at old q unit place) o) []) (places form)) (units_in m)

  granules_blocks : (us : List (ℕ × UnitForm)) → flat_map (part_of old q) (flat_map (λ u. map (granule u.0) (places_in old u.1)) us) ≡ flat_map (λ u. flat_map (λ place. part_of old q (granule u.0 place)) (places_in old u.1)) us
  granules_blocks [] = refl
  granules_blocks (u ∷ us) =
      flat_map-append (part_of old q) (map (granule u.0) (places_in old u.1)) (flat_map (λ (v : ℕ × UnitForm). map (granule v.0) (places_in old v.1)) us)
      ∙ ap₂ (λ (xs ys : List (Target × List Value)). xs ++ ys) (flat_map-map (part_of old q) (granule u.0) (places_in old u.1)) (granules_blocks us)

  pub gathered_alike : SameItems (gathered m) (flat_map (part_of old q) (granules_of old q))
  gathered_alike =
      through (same_items_if _ _ (by_forms (gathered_at old)))
      (through (blocks_alike all_forms (λ form. flat_map (part_at old q form) (gathered_at old form)) (λ form. flat_map (part_at old q form) (places_in old form)) (λ form ok. unit_alike old q form) (units_in m) (every (units_in m)))
      (same_items_if _ _ (sym (granules_blocks (enumerate_from 0 (units_in m)) ∙ by_forms (places_in old)))))
