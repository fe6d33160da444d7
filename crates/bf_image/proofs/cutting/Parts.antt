-- The parts of all granules together are the images of all arms.
use Rattle.std.proofs.Common.{◌≡◌, ℕ, ◌+◌, Bool, true, false, not, ◌&&◌, ◌||◌, cond, if◌then◌else◌, List, [], ◌∷◌, ◌++◌, map, filter, flat_map, length, slice_range, Option, Some, None, is_some, refl, sym, ap, ap₂, ◌∙◌, arith, append_assoc}
use Rattle.std.specs.Prelude.{unwrap_or, option_map, slice_get}
use Rattle.std.specs.List.{list_any, list_all, range_with_len, enumerate_from}
use Rattle.std.proofs.lemmas.Bool.{and_parts, false≢true}
use Rattle.std.proofs.lemmas.List.{append-nil, map-append}
use Rattle.std.proofs.lemmas.List.Concat.{flat_map-append}
use Rattle.std.proofs.lemmas.List.Folds.{flat_map-map}
use Rattle.bf_base.specs.declared.value.Value.{Value}
use Rattle.bf_base.specs.declared.granule.Place.TheVariants.{Row, Group}
use Rattle.bf_base.specs.Values.{key_cmp}
use Rattle.bf_base.specs.Lists.{same_name, same_key, has, in_order}
use Rattle.bf_base.proofs.Apart.{are_apart}
use Rattle.bf_base.proofs.Items.{SameItems, through, same_items, same_items_if, turned, mapped}
use Rattle.bf_base.proofs.Parts.{flat_map-flat_map, flat_map_of_one, list_all_always}
use Rattle.bf_base.specs.Distinct.{distinct}
use Rattle.bf_tree.specs.declared.migration.Join.{Join}
use Rattle.bf_tree.specs.declared.migration.Arm.{Arm}
use Rattle.bf_tree.specs.declared.migration.Target.{Target}
use Rattle.bf_tree.specs.declared.migration.Migrate.{Migrate}
use Rattle.bf_tree.specs.declared.plan.ArmKind.{ArmKind}
use Rattle.bf_tree.specs.declared.plan.ArmKind.TheVariants.{ByFrom, ByJoin, ByPair, ByGroup}
use Rattle.bf_sql.specs.Database.{Database, table_rows}
use Rattle.bf_sql.specs.migrations.Targets.{arm_kind, arm_scope, width, equalities, names_of_join}
use Rattle.bf_sql.specs.migrations.MigrationObjections.{drivers_of, driver_by, is_by_row}
use Rattle.bf_sql.specs.migrations.Images.{arm_rows, rows_of_join}
use Rattle.bf_sql.specs.migrations.Granules.{UnitForm, rows_unit, values_unit, arms_of, units_of, row_at, rows_driven, from_with, join_with, anchor_values, places_in, granule, granules_of, part_at, part_of}
use Rattle.bf_index.proofs.Bags.{both_sides, blocks_equal, blocks_alike, both_blocks, blocks_filtered, map_of_blocks, no_blocks, turned_round}
use Rattle.bf_image.proofs.items.Names.{name-equal, name-itself, name-symmetric}
use Rattle.bf_index.proofs.Values.{distinct-apart}
use Rattle.bf_image.proofs.making.Arms.{is_one_sided, rows_by, fine_row, from_in_turn, join_in_turn, pairs_in_turn, groups_in_turn}

module _ {U : Type 0} where
  pub at_seam : (before : List U) (u : U) (us : List U) → slice_get (before ++ u ∷ us) (length before) ≡ Some u
  at_seam [] u us = refl
  at_seam (b ∷ before) u us = at_seam before u us

  pub one_longer : (before : List U) (u : U) → length (before ++ u ∷ []) ≡ length before + 1
  one_longer [] u = refl
  one_longer (b ∷ before) u = omega (arith, one_longer before u)

module _ {U Z : Type 0} where
  -- items that are looked up by their numbers
  numbered : (f : Option U → U → List Z) (before us : List U) (n : ℕ) → length before ≡ n → flat_map (λ u. f (slice_get (before ++ us) u.0) u.1) (enumerate_from n us) ≡ flat_map (λ u. f (Some u) u) us
  numbered f before [] n e = refl
  numbered f before (u ∷ us) n e =
      let here : slice_get (before ++ u ∷ us) n ≡ Some u = ap (slice_get (before ++ u ∷ us)) (sym e) ∙ at_seam before u us in
      let rest = numbered f (before ++ u ∷ []) us (n + 1) (one_longer before u ∙ ap (λ k. k + 1) e) in
      let joined : (before ++ u ∷ []) ++ us ≡ before ++ u ∷ us = append_assoc before (u ∷ []) us in
      ap₂ (λ ys zs. ys ++ zs) (ap (λ o. f o u) here) (ap (λ all. flat_map (λ u. f (slice_get all u.0) u.1) (enumerate_from (n + 1) us)) (sym joined) ∙ rest)

  pub all_numbered : (f : Option U → U → List Z) (us : List U) → flat_map (λ u. f (slice_get us u.0) u.1) (enumerate_from 0 us) ≡ flat_map (λ u. f (Some u) u) us
  all_numbered f us = numbered f [] us 0 refl

-- what is there of an option
pub if_there : {X : Type 0} (o : Option X) → is_some o ≡ true → (x : X) × (o ≡ Some x)
if_there (Some x) e = (x, refl)
if_there None e = absurd (false≢true e)

pub if_absent : {X : Type 0} (o : Option X) → not (is_some o) ≡ true → o ≡ None
if_absent None e = refl
if_absent (Some x) e = absurd (false≢true e)

module _ (old : Database) (arm : Arm) where
  -- what the catalog and the rows have to give so that an arm's parts make its image
  abbrev pub is_fine : List (List ℕ) → ArmKind → Bool
  is_fine drivers ByFrom = has same_name drivers arm.from
  is_fine drivers ByJoin = is_some arm.join && list_all (has same_name drivers) (names_of_join arm)
  is_fine drivers ByPair = is_some arm.join && (list_all (λ e. not (is_one_sided (arm_scope old arm) (width old arm) e)) (equalities arm) && list_all (fine_row old arm) (table_rows old arm.from))
  is_fine drivers ByGroup = not (is_some arm.join)

  abbrev pub whole_by : ArmKind → List (List Value)
  whole_by kind = rows_by old arm kind (table_rows old arm.from) (rows_of_join old arm.join)

  -- rows of one of the driver's rows, and of one value
  abbrev pub driven : ArmKind → ArmKind → List ℕ → ℕ → List (List Value)
  driven kind ByFrom driver at = if same_name arm.from driver then rows_by old arm kind (row_at old arm driver at) (rows_of_join old arm.join) else []
  driven kind ByJoin driver at = if list_any (same_name driver) (names_of_join arm) then rows_by old arm kind (table_rows old arm.from) (row_at old arm driver at) else []
  driven kind ByPair driver at = []
  driven kind ByGroup driver at = []

  pub as_driven : (kind : ArmKind) (driver : List ℕ) (at : ℕ) → rows_driven old arm kind driver at ≡ driven (arm_kind old arm) kind driver at
  as_driven ByFrom driver at = refl
  as_driven ByJoin driver at = refl
  as_driven ByPair driver at = refl
  as_driven ByGroup driver at = refl

  abbrev all_driven : ArmKind → List (List ℕ) → List (List Value)
  all_driven kind drivers = flat_map (λ d. flat_map (driven kind kind d) (range_with_len 0 (length (table_rows old d)))) drivers

  none_driven : (drivers : List (List ℕ)) → flat_map (λ d. flat_map (λ at. let none : List (List Value) = [] in none) (range_with_len 0 (length (table_rows old d)))) drivers ≡ []
  none_driven [] = refl
  none_driven (d ∷ ds) = ap₂ (λ ys zs. ys ++ zs) (no_blocks (range_with_len 0 (length (table_rows old d)))) (none_driven ds)

  driven_in_turn : (drivers : List (List ℕ)) → are_apart same_name drivers ≡ true → (kind : ArmKind) → is_fine drivers kind ≡ true → SameItems (all_driven kind drivers) (cond (is_by_row kind) (whole_by kind) [])
  driven_in_turn drivers apart ByFrom fine =
      let rows : List ℕ → List (List Value) = λ d. flat_map (driven ByFrom ByFrom d) (range_with_len 0 (length (table_rows old d))) in
      let others : (x : List ℕ) → same_name arm.from x ≡ false → rows x ≡ [] = λ x e.
      blocks_equal (driven ByFrom ByFrom x) (λ at. []) (λ at. ap (λ b. if b then rows_by old arm ByFrom (row_at old arm x at) (rows_of_join old arm.join) else []) e) (range_with_len 0 (length (table_rows old x)))
      ∙ no_blocks (range_with_len 0 (length (table_rows old x))) in
      let own : rows arm.from ≡ whole_by ByFrom =
      blocks_equal (driven ByFrom ByFrom arm.from) (λ at. rows_by old arm ByFrom (row_at old arm arm.from at) (rows_of_join old arm.join)) (λ at. ap (λ b. if b then rows_by old arm ByFrom (row_at old arm arm.from at) (rows_of_join old arm.join) else []) (name-itself arm.from)) (range_with_len 0 (length (table_rows old arm.from)))
      ∙ from_in_turn old arm (table_rows old arm.from) (rows_of_join old arm.join) in
      same_items_if _ _ (flat_map_of_one same_name rows arm.from others (λ x e. name-equal arm.from x e) drivers apart fine ∙ own)
  driven_in_turn drivers apart ByJoin fine =
      let (j, joined) = if_there arm.join (and_parts _ _ fine).0 in
      of_join j joined
    where
      of_join : (j : Join) → arm.join ≡ Some j → SameItems (all_driven ByJoin drivers) (whole_by ByJoin)
      of_join j joined =
          let names : names_of_join arm ≡ j.table ∷ [] = ap (λ (o : Option Join). unwrap_or (option_map (λ j. j.table ∷ []) o) []) joined in
          let join : rows_of_join old arm.join ≡ table_rows old j.table = ap (rows_of_join old) joined in
          let there : has same_name drivers j.table ≡ true = (and_parts (has same_name drivers j.table) _ (ap (list_all (has same_name drivers)) (sym names) ∙ (and_parts (is_some arm.join) _ fine).1)).0 in
          let rows : List ℕ → List (List Value) = λ d. flat_map (driven ByJoin ByJoin d) (range_with_len 0 (length (table_rows old d))) in
          let test : (x : List ℕ) → list_any (same_name x) (names_of_join arm) ≡ same_name j.table x = λ x. ap (list_any (same_name x)) names ∙ either x (same_name x j.table) refl in
          let others : (x : List ℕ) → same_name j.table x ≡ false → rows x ≡ [] = λ x e.
          blocks_equal (driven ByJoin ByJoin x) (λ at. []) (λ at. ap (λ b. if b then rows_by old arm ByJoin (table_rows old arm.from) (row_at old arm x at) else []) (test x ∙ e)) (range_with_len 0 (length (table_rows old x)))
          ∙ no_blocks (range_with_len 0 (length (table_rows old x))) in
          let own : rows j.table ≡ flat_map (λ p. rows_by old arm ByJoin (table_rows old arm.from) (slice_range (table_rows old j.table) p (p + 1))) (range_with_len 0 (length (table_rows old j.table))) =
          blocks_equal (driven ByJoin ByJoin j.table) (λ at. rows_by old arm ByJoin (table_rows old arm.from) (row_at old arm j.table at)) (λ at. ap (λ b. if b then rows_by old arm ByJoin (table_rows old arm.from) (row_at old arm j.table at) else []) (test j.table ∙ name-itself j.table)) (range_with_len 0 (length (table_rows old j.table))) in
          through (same_items_if _ _ (flat_map_of_one same_name rows j.table others (λ x e. name-equal j.table x e) drivers apart there ∙ own))
          (through (join_in_turn old arm j joined (table_rows old arm.from) (table_rows old j.table)) (same_items_if _ _ (ap (rows_by old arm ByJoin (table_rows old arm.from)) (sym join))))
        where
          either : (x : List ℕ) (b : Bool) → same_name x j.table ≡ b → (b || false) ≡ same_name j.table x
          either x true e = sym e ∙ name-symmetric x j.table
          either x false e = sym e ∙ name-symmetric x j.table
  driven_in_turn drivers apart ByPair fine = same_items_if _ _ (none_driven drivers)
  driven_in_turn drivers apart ByGroup fine = same_items_if _ _ (none_driven drivers)

  abbrev valued : ArmKind → List Value → List (List Value)
  valued kind v = rows_by old arm kind (from_with old arm kind v) (join_with old arm v)

  abbrev all_valued : ArmKind → List (List Value)
  all_valued kind = flat_map (valued kind) (in_order key_cmp (λ v. v) (distinct same_key (anchor_values old arm kind)))

  valued_in_turn : (drivers : List (List ℕ)) (kind : ArmKind) → is_fine drivers kind ≡ true → SameItems (cond (not (is_by_row kind)) (all_valued kind) []) (cond (not (is_by_row kind)) (whole_by kind) [])
  valued_in_turn drivers ByFrom fine = same_items []
  valued_in_turn drivers ByJoin fine = same_items []
  valued_in_turn drivers ByPair fine =
      let (j, joined) = if_there arm.join (and_parts _ _ fine).0 in
      let rest = and_parts (list_all (λ e. not (is_one_sided (arm_scope old arm) (width old arm) e)) (equalities arm)) (list_all (fine_row old arm) (table_rows old arm.from)) (and_parts (is_some arm.join) _ fine).1 in
      pairs_in_turn old arm j joined rest.0 rest.1
  valued_in_turn drivers ByGroup fine = groups_in_turn old arm (if_absent arm.join fine)

  either_part : (b : Bool) (rows : List (List Value)) → cond b rows [] ++ cond (not b) rows [] ≡ rows
  either_part true rows = append-nil rows
  either_part false rows = refl

  -- an arm's rows, by drivers and by values
  pub arm_in_turn : (drivers : List (List ℕ)) → are_apart same_name drivers ≡ true → (kind : ArmKind) → is_fine drivers kind ≡ true
      → SameItems (all_driven kind drivers ++ cond (not (is_by_row kind)) (all_valued kind) []) (whole_by kind)
  arm_in_turn drivers apart kind fine =
      through (both_sides (driven_in_turn drivers apart kind fine) (valued_in_turn drivers kind fine)) (same_items_if _ _ (either_part (is_by_row kind) (whole_by kind)))

-- rows with their target
abbrev pub labelled : Target → List (List Value) → List (Target × List Value)
labelled t rows = map (λ row. (t, row)) rows

module _ (old : Database) (m : Migrate) where
  -- what an arm gives over the whole old tables
  abbrev pub whole : Target × Arm → List (Target × List Value)
  whole p = labelled p.0 (arm_rows old p.1 (table_rows old p.1.from) (rows_of_join old p.1.join))

  abbrev pub is_fine_arm : Target × Arm → Bool
  is_fine_arm p = is_fine old p.1 (drivers_of old m) (arm_kind old p.1)

  abbrev part_driven : Target × Arm → List ℕ → ℕ → List (Target × List Value)
  part_driven p d at = labelled p.0 (rows_driven old p.1 (arm_kind old p.1) d at)

  abbrev part_valued : Target × Arm → List Value → List (Target × List Value)
  part_valued p v = labelled p.0 (arm_rows old p.1 (from_with old p.1 (arm_kind old p.1) v) (join_with old p.1 v))

  abbrev numbers : List ℕ → List ℕ
  numbers d = range_with_len 0 (length (table_rows old d))

  abbrev values : Target × Arm → List (List Value)
  values p = in_order key_cmp (λ v. v) (distinct same_key (anchor_values old p.1 (arm_kind old p.1)))

  abbrev by_value_only : Target × Arm → Bool
  by_value_only p = not (is_by_row (arm_kind old p.1))

  abbrev by_drivers : Target × Arm → List (Target × List Value)
  by_drivers p = flat_map (λ d. flat_map (part_driven p d) (numbers d)) (drivers_of old m)

  abbrev by_values : Target × Arm → List (Target × List Value)
  by_values p = cond (by_value_only p) (flat_map (part_valued p) (values p)) []

  by_units : flat_map (part_of old m) (granules_of old m) ≡ flat_map (λ u. flat_map (part_at old m u) (places_in old u)) (units_of old m)
  by_units =
      let units = units_of old m in
      let at : Option UnitForm → UnitForm → List (Target × List Value) = λ o u. flat_map (λ place. unwrap_or (option_map (λ unit. part_at old m unit place) o) []) (places_in old u) in
      flat_map-flat_map (part_of old m) (λ u. map (granule u.0) (places_in old u.1)) (enumerate_from 0 units)
      ∙ blocks_equal (λ u. flat_map (part_of old m) (map (granule u.0) (places_in old u.1))) (λ u. at (slice_get units u.0) u.1) (λ u. flat_map-map (part_of old m) (granule u.0) (places_in old u.1)) (enumerate_from 0 units)
      ∙ all_numbered at units

  row_units : SameItems (flat_map (λ u. flat_map (part_at old m u) (places_in old u)) (map rows_unit (drivers_of old m))) (flat_map by_drivers (arms_of m))
  row_units =
      let drivers = drivers_of old m in
      let flat : flat_map (λ u. flat_map (part_at old m u) (places_in old u)) (map rows_unit drivers) ≡ flat_map (λ d. flat_map (λ at. flat_map (λ p. part_driven p d at) (arms_of m)) (numbers d)) drivers =
      flat_map-map (λ u. flat_map (part_at old m u) (places_in old u)) rows_unit drivers
      ∙ blocks_equal (λ d. flat_map (part_at old m (rows_unit d)) (map Row (numbers d))) (λ d. flat_map (λ at. flat_map (λ p. part_driven p d at) (arms_of m)) (numbers d)) (λ d. flat_map-map (part_at old m (rows_unit d)) Row (numbers d)) drivers in
      through (same_items_if _ _ flat)
      (through
      (blocks_alike (λ d. true) (λ d. flat_map (λ at. flat_map (λ p. part_driven p d at) (arms_of m)) (numbers d)) (λ d. flat_map (λ p. flat_map (part_driven p d) (numbers d)) (arms_of m)) (λ d fine. turned_round (λ at p. part_driven p d at) (numbers d) (arms_of m)) drivers (list_all_always drivers))
      (turned_round (λ d p. flat_map (part_driven p d) (numbers d)) drivers (arms_of m)))

  value_units : flat_map (λ u. flat_map (part_at old m u) (places_in old u)) (map (λ p. values_unit p.0 p.1) (filter by_value_only (arms_of m))) ≡ flat_map by_values (arms_of m)
  value_units =
      flat_map-map (λ u. flat_map (part_at old m u) (places_in old u)) (λ p. values_unit p.0 p.1) (filter by_value_only (arms_of m))
      ∙ blocks_equal (λ p. flat_map (part_at old m (values_unit p.0 p.1)) (map Group (values p))) (λ p. flat_map (part_valued p) (values p)) (λ p. flat_map-map (part_at old m (values_unit p.0 p.1)) Group (values p)) (filter by_value_only (arms_of m))
      ∙ blocks_filtered (λ p. flat_map (part_valued p) (values p)) by_value_only (arms_of m)

  each_arm : (p : Target × Arm) → is_fine_arm p ≡ true → SameItems (by_drivers p ++ by_values p) (whole p)
  each_arm p fine =
      let drivers = drivers_of old m in
      let kind = arm_kind old p.1 in
      let label : List Value → Target × List Value = λ row. (p.0, row) in
      let driven_alike : by_drivers p ≡ map label (all_driven old p.1 kind drivers) =
      blocks_equal (λ d. flat_map (part_driven p d) (numbers d)) (λ d. map label (flat_map (driven old p.1 kind kind d) (numbers d)))
      (λ d. blocks_equal (part_driven p d) (λ at. map label (driven old p.1 kind kind d at)) (λ at. ap (map label) (as_driven old p.1 kind d at)) (numbers d) ∙ sym (map_of_blocks label (driven old p.1 kind kind d) (numbers d))) drivers
      ∙ sym (map_of_blocks label (λ d. flat_map (driven old p.1 kind kind d) (numbers d)) drivers) in
      let valued_alike : by_values p ≡ map label (cond (by_value_only p) (all_valued old p.1 kind) []) = in_cond (by_value_only p) label (valued old p.1 kind) (values p) in
      let joined = ap₂ (λ ys zs. ys ++ zs) driven_alike valued_alike ∙ sym (map-append label (all_driven old p.1 kind drivers) (cond (by_value_only p) (all_valued old p.1 kind) [])) in
      through (same_items_if _ _ joined) (mapped label (arm_in_turn old p.1 drivers (distinct-apart same_name name-symmetric name-equal name-itself (flat_map (λ t. flat_map (λ arm. driver_by (arm_kind old arm) arm) t.arms) m.targets)) kind fine))
    where
      in_cond : (b : Bool) (label : List Value → Target × List Value) (f : List Value → List (List Value)) (vs : List (List Value)) → cond b (flat_map (λ v. map label (f v)) vs) [] ≡ map label (cond b (flat_map f vs) [])
      in_cond true label f vs = sym (map_of_blocks label f vs)
      in_cond false label f vs = refl

  -- ALL PARTS together are all images, each row as often
  pub all_parts : list_all is_fine_arm (arms_of m) ≡ true → SameItems (flat_map (part_of old m) (granules_of old m)) (flat_map whole (arms_of m))
  all_parts fine =
      let row = map rows_unit (drivers_of old m) in
      let value = map (λ p. values_unit p.0 p.1) (filter by_value_only (arms_of m)) in
      let parts : UnitForm → List (Target × List Value) = λ u. flat_map (part_at old m u) (places_in old u) in
      through (same_items_if _ _ (by_units ∙ flat_map-append parts row value))
      (through (both_sides row_units (same_items_if _ _ value_units))
      (through (turned (both_blocks by_drivers by_values (arms_of m)))
      (blocks_alike is_fine_arm (λ p. by_drivers p ++ by_values p) whole each_arm (arms_of m) fine)))
