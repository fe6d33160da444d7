-- The places of a unit of a lawful migration are those of which its old rows tell.
use Rattle.std.proofs.Common.{◌≡◌, ℕ, zero, suc, ◌+◌, ◌<◌, Bool, true, false, not, ◌&&◌, ◌||◌, ◌==◌, cond, nat_lt, List, [], ◌∷◌, map, flat_map, filter, length, Option, Some, None, option_map, unwrap_or, refl, sym, ap, ap₂, ◌∙◌, zero-add, arith}
use Rattle.std.specs.Prelude.{slice_get}
use Rattle.std.specs.List.{enumerate_from, range_with_len}
use Rattle.std.specs.Option.{option_and_then, option_map_or}
use Rattle.std.proofs.lemmas.Bool.{eq-eqb, ne_eqb}
use Rattle.std.proofs.lemmas.Bool.Decides.{nat_tests}
use Rattle.std.proofs.lemmas.List.Folds.{list_any-append}
use Rattle.std.proofs.lemmas.Option.{same_Some, slice_get-map}
use Rattle.bf_base.specs.declared.granule.Granule.{Granule}
use Rattle.bf_base.specs.declared.granule.Place.{Place}
use Rattle.bf_base.specs.declared.granule.Place.TheVariants.{Row, Group}
use Rattle.bf_base.specs.declared.value.Value.{Value}
use Rattle.bf_base.specs.Lists.{has, same_key}
use Rattle.bf_tree.specs.declared.migration.Arm.{Arm}
use Rattle.bf_tree.specs.declared.migration.Join.{Join}
use Rattle.bf_tree.specs.declared.migration.Target.{Target}
use Rattle.bf_tree.specs.declared.plan.ArmKind.{ArmKind}
use Rattle.bf_tree.specs.declared.plan.ArmKind.TheVariants.{ByFrom, ByJoin, ByPair, ByGroup}
use Rattle.bf_sql.specs.Database.{Database, table_rows}
use Rattle.bf_sql.specs.migrations.Granules.{UnitForm, rows_unit, values_unit, anchor_values, anchors_of, granule, granules_of, left_value, right_value, same_granule, same_place}
use Rattle.bf_sql.specs.migrations.Images.{group_value, rows_of_join}
use Rattle.bf_sql.specs.migrations.MigrationObjections.{is_by_row}
use Rattle.bf_sql.specs.migrations.Targets.{arm_kind}
use Rattle.bf_index.specs.ByValues.{by_value}
use Rattle.bf_image.specs.Migrations.{IsLawfulMigration, anchors_in, from_values, old_of, unit_at, unit_index, units_in, value_indexes}
use Rattle.bf_image.specs.declared.migration.Migration.{Migration}
use Rattle.bf_image.specs.declared.value_indexes.UnitIndex.{UnitIndex}
use Rattle.bf_index.proofs.Indexed.{under_is}
use Rattle.bf_image.proofs.cutting.Anchors.{count_is}
use Rattle.bf_image.proofs.finding.Owned.{sweep_meets}
use Rattle.bf_image.proofs.planning.Units.{unit_among}
use Rattle.bf_image.proofs.planning.Within.{allowed, alone_by_group}
use Rattle.bf_recover.specs.Places.{has_rows, has_value, is_row_below, is_value_of}

or_false : (b : Bool) → (b || false) ≡ b
or_false true = refl
or_false false = refl

-- a place among granules by numbered units
module _ (places : UnitForm → List Place) (place : Place) where
  abbrev blocks : List (ℕ × UnitForm) → List Granule
  blocks us = flat_map (λ u. map (granule u.0) (places u.1)) us

  of_unit : (n k : ℕ) (ps : List Place) → has same_granule (map (granule n) ps) (granule k place) ≡ ((k == n) && has same_place ps place)
  of_unit n k [] = off (k == n)
    where
      off : (b : Bool) → false ≡ (b && false)
      off true = refl
      off false = refl
  of_unit n k (p ∷ ps) = ap (λ b. ((k == n) && same_place place p) || b) (of_unit n k ps) ∙ spread (k == n) (same_place place p) (has same_place ps place)
    where
      spread : (a b c : Bool) → ((a && b) || (a && c)) ≡ (a && (b || c))
      spread true b c = refl
      spread false b c = refl

  in_first : (n k : ℕ) (u : UnitForm) (us : List (ℕ × UnitForm)) → has same_granule (blocks ((n, u) ∷ us)) (granule k place) ≡ (((k == n) && has same_place (places u) place) || has same_granule (blocks us) (granule k place))
  in_first n k u us =
      list_any-append (same_granule (granule k place)) (map (granule n) (places u)) (blocks us)
      ∙ ap (λ b. b || has same_granule (blocks us) (granule k place)) (of_unit n k (places u))

  none_later : (us : List UnitForm) (n k : ℕ) → k < n → has same_granule (blocks (enumerate_from n us)) (granule k place) ≡ false
  none_later [] n k less = refl
  none_later (u ∷ us) n k less =
      in_first n k u (enumerate_from (n + 1) us)
      ∙ ap₂ (λ a b. (a && has same_place (places u) place) || b) (ne_eqb k n (omega arith)) (none_later us (n + 1) k (omega arith))

  numbered : (us : List UnitForm) (n i k : ℕ) → n + i ≡ k
      → has same_granule (blocks (enumerate_from n us)) (granule k place) ≡ unwrap_or (option_map (λ u. has same_place (places u) place) (slice_get us i)) false
  numbered [] n i k at = refl
  numbered (u ∷ us) n zero k at =
      in_first n k u (enumerate_from (n + 1) us)
      ∙ ap₂ (λ a b. (a && has same_place (places u) place) || b) (eq-eqb k n (omega (arith, at))) (none_later us (n + 1) k (omega (arith, at)))
      ∙ or_false (has same_place (places u) place)
  numbered (u ∷ us) n (suc i) k at =
      in_first n k u (enumerate_from (n + 1) us)
      ∙ ap₂ (λ a b. (a && has same_place (places u) place) || b) (ne_eqb k n (omega (arith, at))) (numbered us (n + 1) i k (omega (arith, at)))

-- a place is among those of its unit
known_in_unit : (m : Migration) (unit : ℕ) (place : Place)
    → has same_granule (granules_of (old_of m) m.plan.migrate) (granule unit place) ≡ unwrap_or (option_map (λ u. has same_place (anchors_of (old_of m) u) place) (unit_at m unit)) false
known_in_unit m unit place =
    sym (sweep_meets (old_of m) m.plan.migrate (granule unit place))
    ∙ numbered (anchors_of (old_of m)) place (units_in m) 0 unit unit (zero-add unit)

-- rows by position
row_in_range : (a n i p : ℕ) → a + i ≡ p → has same_place (map Row (range_with_len a n)) (Row p) ≡ nat_lt i n
row_in_range a zero i p at = let none : nat_lt i 0 ≡ false = grind (arith, nat_tests) in sym none
row_in_range a (suc n) zero p at =
    let first : (p == a) ≡ true = eq-eqb p a (omega (arith, at)) in
    let below : nat_lt 0 (suc n) ≡ true = grind (arith, nat_tests) in
    ap (λ b. b || has same_place (map Row (range_with_len (a + 1) n)) (Row p)) first ∙ sym below
row_in_range a (suc n) (suc i) p at =
    let same : nat_lt i n ≡ nat_lt (suc i) (suc n) = grind (arith, nat_tests) in
    ap₂ (λ b c. b || c) (ne_eqb p a (omega (arith, at))) (row_in_range (a + 1) n i p (omega (arith, at))) ∙ same

no_group : (ns : List ℕ) (v : List Value) → has same_place (map Row ns) (Group v) ≡ false
no_group [] v = refl
no_group (n ∷ ns) v = no_group ns v

no_row : (vs : List (List Value)) (p : ℕ) → has same_place (map Group vs) (Row p) ≡ false
no_row [] p = refl
no_row (v ∷ vs) p = no_row vs p

group_among : (vs : List (List Value)) (v : List Value) → has same_place (map Group vs) (Group v) ≡ has same_key vs v
group_among [] v = refl
group_among (w ∷ vs) v = ap (λ b. same_key v w || b) (group_among vs v)

-- some row stands under a value exactly where one has it
some_from : (n : ℕ) (values : List (List Value)) (v : List Value) → not (length (map (λ (row : ℕ × List Value). row.0) (filter (λ row. same_key v row.1) (enumerate_from n values))) == 0) ≡ has same_key values v
some_from n [] v = refl
some_from n (w ∷ values) v = elim (same_key v w) as (λ b. not (length (map (λ (row : ℕ × List Value). row.0) (cond b ((n, w) ∷ filter (λ row. same_key v row.1) (enumerate_from (n + 1) values)) (filter (λ row. same_key v row.1) (enumerate_from (n + 1) values)))) == 0) ≡ (b || has same_key values v)) [
  | true ↦ some (map (λ (row : ℕ × List Value). row.0) (filter (λ row. same_key v row.1) (enumerate_from (n + 1) values)))
  | false ↦ some_from (n + 1) values v
]
  where
    some : (xs : List ℕ) → not (length (n ∷ xs) == 0) ≡ true
    some xs = grind (arith, nat_tests)

rows_under : (values : List (List Value)) (v : List Value) → has_rows v (by_value values) ≡ has same_key values v
rows_under values v = ap (λ ps. not (length ps == 0)) (under_is values v) ∙ some_from 0 values v

module _ (m : Migration) (lawful : IsLawfulMigration m) (unit : ℕ) where
  abbrev old : Database
  old = old_of m

  abbrev known : Place → Bool
  known place = has same_granule (granules_of old m.plan.migrate) (granule unit place)

  -- the index that a unit has
  indexed : option_and_then (λ (index : Option UnitIndex). index) (slice_get (value_indexes m) unit) ≡ option_and_then (unit_index old) (unit_at m unit)
  indexed = ap (option_and_then (λ (index : Option UnitIndex). index)) (slice_get-map (unit_index old) (units_in m) unit) ∙ joined (unit_at m unit)
    where
      joined : (o : Option UnitForm) → option_and_then (λ (index : Option UnitIndex). index) (option_map (unit_index old) o) ≡ option_and_then (unit_index old) o
      joined None = refl
      joined (Some u) = refl

  -- a unit by values has the values of its arm's rows
  join_values : (arm : Arm) (j : Option Join) (v : List Value) → option_map_or (has_rows v) (option_map (λ j. by_value (map (right_value old arm) (table_rows old j.table))) j) false ≡ has same_key (map (right_value old arm) (rows_of_join old j)) v
  join_values arm None v = refl
  join_values arm (Some j) v = rows_under (map (right_value old arm) (table_rows old j.table)) v

  alone_values : (arm : Arm) (j : Option Join) (v : List Value) → j ≡ None → option_map_or (has_rows v) (option_map (λ j. by_value (map (right_value old arm) (table_rows old j.table))) j) false ≡ false
  alone_values arm None v alone = refl
  alone_values arm (Some j) v alone = absurd cc

  by_kind : (t : Target) (arm : Arm) (kind : ArmKind) → arm_kind old arm ≡ kind → is_by_row kind ≡ false → (kind ≡ ByGroup → arm.join ≡ None) → (v : List Value)
      → (has_rows v (by_value (from_values old arm kind)) || option_map_or (has_rows v) (option_map (λ j. by_value (map (right_value old arm) (table_rows old j.table))) arm.join) false) ≡ has same_key (anchor_values old arm kind) v
  by_kind t arm ByFrom e values alone v = absurd cc
  by_kind t arm ByJoin e values alone v = absurd cc
  by_kind t arm ByGroup e values alone v =
      ap₂ (λ a b. a || b) (rows_under (map (group_value old arm) (table_rows old arm.from)) v) (alone_values arm arm.join v (alone refl))
      ∙ or_false (has same_key (map (group_value old arm) (table_rows old arm.from)) v)
  by_kind t arm ByPair e values alone v =
      ap₂ (λ a b. a || b) (rows_under (map (left_value old arm) (table_rows old arm.from)) v) (join_values arm arm.join v)
      ∙ sym (list_any-append (same_key v) (map (left_value old arm) (table_rows old arm.from)) (map (right_value old arm) (rows_of_join old arm.join)))

  value_of_unit : (t : Target) (arm : Arm) → unit_at m unit ≡ Some (values_unit t arm) → (index : UnitIndex) → unit_index old (values_unit t arm) ≡ Some index → (v : List Value)
      → has_value index v ≡ has same_place (anchors_of old (values_unit t arm)) (Group v)
  value_of_unit t arm at index is v =
      let of = unit_among m lawful unit t arm at in
      let fine = allowed old m.plan.migrate t arm lawful.lawful of.target_among of.arm_among in
      let same = same_Some _ index is in
      ap (λ (i : UnitIndex). has_value i v) (sym same)
      ∙ by_kind t arm (arm_kind old arm) refl of.by_values (alone_by_group old arm fine.alone) v
      ∙ sym (group_among (anchor_values old arm (arm_kind old arm)) v)

  value_known : (index : UnitIndex) → Some index ≡ option_and_then (λ (index : Option UnitIndex). index) (slice_get (value_indexes m) unit) → (v : List Value) → has_value index v ≡ known (Group v)
  value_known index found v = of (unit_at m unit) refl (found ∙ indexed) ∙ sym (known_in_unit m unit (Group v))
    where
      of : (o : Option UnitForm) → unit_at m unit ≡ o → Some index ≡ option_and_then (unit_index old) o
          → has_value index v ≡ unwrap_or (option_map (λ u. has same_place (anchors_of old u) (Group v)) o) false
      of None at e = absurd cc
      of (Some (rows_unit driver)) at e = absurd cc
      of (Some (values_unit t arm)) at e = value_of_unit t arm at index (sym e) v

  no_row_known : (index : UnitIndex) → Some index ≡ option_and_then (λ (index : Option UnitIndex). index) (slice_get (value_indexes m) unit) → (p : ℕ) → false ≡ known (Row p)
  no_row_known index found p = of (unit_at m unit) (found ∙ indexed) ∙ sym (known_in_unit m unit (Row p))
    where
      of : (o : Option UnitForm) → Some index ≡ option_and_then (unit_index old) o → false ≡ unwrap_or (option_map (λ u. has same_place (anchors_of old u) (Row p)) o) false
      of None e = refl
      of (Some (rows_unit driver)) e = absurd cc
      of (Some (values_unit t arm)) e = sym (no_row (anchor_values old arm (arm_kind old arm)) p)

  -- a unit by rows has the positions below its driver's rows
  row_known : None ≡ option_and_then (λ (index : Option UnitIndex). index) (slice_get (value_indexes m) unit) → (p : ℕ) → nat_lt p (anchors_in m unit) ≡ known (Row p)
  row_known found p = of (unit_at m unit) (found ∙ indexed) ∙ sym (known_in_unit m unit (Row p))
    where
      never : nat_lt p 0 ≡ false
      never = grind (arith, nat_tests)

      of : (o : Option UnitForm) → None ≡ option_and_then (unit_index old) o
          → nat_lt p (unwrap_or (option_map (λ u. length (anchors_of old u)) o) 0) ≡ unwrap_or (option_map (λ u. has same_place (anchors_of old u) (Row p)) o) false
      of None e = never
      of (Some (rows_unit driver)) e =
          ap (nat_lt p) (count_is old (rows_unit driver))
          ∙ sym (row_in_range 0 (length (table_rows old driver)) p p (zero-add p))
      of (Some (values_unit t arm)) e = absurd cc

  no_value_known : None ≡ option_and_then (λ (index : Option UnitIndex). index) (slice_get (value_indexes m) unit) → (v : List Value) → false ≡ known (Group v)
  no_value_known found v = of (unit_at m unit) (found ∙ indexed) ∙ sym (known_in_unit m unit (Group v))
    where
      of : (o : Option UnitForm) → None ≡ option_and_then (unit_index old) o → false ≡ unwrap_or (option_map (λ u. has same_place (anchors_of old u) (Group v)) o) false
      of None e = refl
      of (Some (rows_unit driver)) e = sym (no_group (range_with_len 0 (length (table_rows old driver))) v)
      of (Some (values_unit t arm)) e = absurd cc

  -- PLACES: of a unit by values, and of one by rows
  pub places_by_value : (index : UnitIndex) → Some index ≡ option_and_then (λ (index : Option UnitIndex). index) (slice_get (value_indexes m) unit) → (p : Place) → is_value_of index p ≡ known p
  places_by_value index found (Group v) = value_known index found v
  places_by_value index found (Row p) = no_row_known index found p

  pub places_by_row : None ≡ option_and_then (λ (index : Option UnitIndex). index) (slice_get (value_indexes m) unit) → (p : Place) → is_row_below (anchors_in m unit) p ≡ known p
  places_by_row found (Row p) = row_known found p
  places_by_row found (Group v) = no_value_known found v
