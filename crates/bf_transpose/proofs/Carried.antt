-- Each row that a value of a unit of joins gives has at the columns that copy those of ON the front of the value.
use Rattle.std.proofs.Common.{◌≡◌, ℕ, ◌+◌, ◌-◌, ◌<◌, ◌≤◌, Bool, true, false, not, ◌&&◌, ◌||◌, ◌==◌, if◌then◌else◌, nat_le, nat_lt, List, [], ◌∷◌, ◌++◌, drop, flat_map, map, filter, get_or, length, take, position, Option, Some, None, is_some, option_map, refl, sym, ap, ap₂, subst, ◌∙◌, inl, inr, arith}
use Rattle.std.specs.Prelude.{unwrap_or}
use Rattle.std.specs.List.{AllByRecursion, list_all, list_any}
use Rattle.std.proofs.lemmas.Bool.{and_parts, cases_Bool, eqb-true, false≢true, not-true, true≢false}
use Rattle.std.proofs.lemmas.Bool.Decides.{nat_tests}
use Rattle.std.proofs.lemmas.List.{at_drop_more, length-map}
use Rattle.std.proofs.lemmas.List.Quantifiers.{position-Some}
use Rattle.std.proofs.lemmas.Option.{slice_get-get_or}
use Rattle.bf_base.specs.declared.granule.Place.TheVariants.{Group}
use Rattle.bf_base.specs.declared.table.Table.{Table}
use Rattle.bf_base.specs.declared.value.Value.{Value}
use Rattle.bf_base.specs.Limits.{most_columns}
use Rattle.bf_base.specs.Lists.{same_key, same_name}
use Rattle.bf_base.specs.Tables.{cell, cells}
use Rattle.bf_heap.specs.KeyRanges.{is_within}
use Rattle.bf_tree.specs.declared.migration.Arm.{Arm}
use Rattle.bf_tree.specs.declared.migration.Join.{Join}
use Rattle.bf_tree.specs.declared.migration.Migrate.{Migrate}
use Rattle.bf_tree.specs.declared.migration.Target.{Target}
use Rattle.bf_tree.specs.declared.plan.ArmKind.{ArmKind}
use Rattle.bf_tree.specs.declared.plan.ArmKind.TheVariants.{ByFrom, ByJoin, ByPair, ByGroup}
use Rattle.bf_tree.specs.declared.plan.PlacedArm.{PlacedArm}
use Rattle.bf_tree.specs.declared.plan.PlacedItem.{PlacedItem}
use Rattle.bf_tree.specs.declared.plan.PlacedItem.TheVariants as placed
use Rattle.bf_tree.specs.declared.raw.Ref.{Ref}
use Rattle.bf_tree.specs.Limits.{has_few_items, has_small_arms}
use Rattle.bf_tree.specs.Evaluation.{holds_on}
use Rattle.bf_tree.specs.Trees.{Cond}
use Rattle.bf_sql.specs.Database.{Database, table_rows}
use Rattle.bf_sql.specs.Scopes.{Scope, place_of}
use Rattle.bf_sql.specs.migrations.Granules.{from_with, granule, join_with, left_value, part_of, right_value, values_unit}
use Rattle.bf_sql.specs.migrations.Images.{arm_rows, rows_of_join}
use Rattle.bf_sql.specs.migrations.MigrationObjections.{is_by_group, is_by_row}
use Rattle.bf_sql.specs.migrations.Placed.{placed_arm, placed_groups, placed_item, placed_matches, placed_over, placed_pair, placed_rows}
use Rattle.bf_sql.specs.migrations.Targets.{arm_kind, arm_scope, equalities, width}
use Rattle.bf_access.proofs.Within.{key_within}
use Rattle.bf_access.specs.Ranges.{key_range_of}
use Rattle.bf_image.specs.Migrations.{IsLawfulMigration, old_of, target_at, unit_at}
use Rattle.bf_image.specs.declared.migration.Migration.{Migration}
use Rattle.bf_image.proofs.finding.Owned.{target_unobjected}
use Rattle.bf_image.proofs.items.Lists.{all_of_contained}
use Rattle.bf_image.proofs.making.Arms.{cell_left, cell_right, is_one_sided, places_on}
use Rattle.bf_image.proofs.making.PlacedArms.{placed_alike}
use Rattle.bf_image.proofs.making.Unobjected.{alone_in_groups, arms_ok, as_wide, two_sided}
use Rattle.bf_image.proofs.parting.UnitParts.{part, part_is}
use Rattle.bf_image.proofs.planning.Numbered.{each_kept, each_of_blocks, each_of_map, each_so}
use Rattle.bf_image.proofs.planning.Units.{IsUnitOf, unit_among}
use Rattle.bf_transpose.specs.Joined.{AreCarried, IsArmByValues, columns_of_on, copies_either}
use Rattle.bf_transpose.specs.KeysBehind.{with_key}
use Rattle.bf_transpose.specs.Scans.{gives}
use Rattle.bf_transpose.specs.Transposed.{place_copied}
use Rattle.bf_transpose.proofs.Each.{each_passes}
use Rattle.bf_transpose.proofs.Fronts.{within_by_front}
use Rattle.bf_transpose.proofs.Rising.{equal}
use Rattle.bf_transpose.proofs.Transposing.{item_copies, made_cell}

-- the columns of the equalities of ON from one on
pub columns_next : (items : List PlacedItem) (on : List (ℕ × ℕ)) (n : ℕ) → n < length on → (d : ℕ × ℕ) (o : Option ℕ) → position (copies_either (get_or on n d)) items ≡ o
    → columns_of_on items (drop n on) ≡ unwrap_or (option_map (λ at. at ∷ columns_of_on items (drop (n + 1) on)) o) []
columns_next items on n within d o at =
    at_drop_more (λ on. columns_of_on items on) on n d within ∙ ap (λ (o : Option ℕ). unwrap_or (option_map (λ at. at ∷ columns_of_on items (drop (n + 1) on)) o) []) at

-- what is true of anything is true of each
each_always : {X : Type 0} (P : X → Type 0) → ((x : X) → P x) → (xs : List X) → AllByRecursion P xs
each_always P one [] = tt
each_always P one (x ∷ xs) = (one x, each_always P one xs)

each_true : {X : Type 0} (test : X → Bool) (xs : List X) → list_all test xs ≡ true → AllByRecursion (λ x. test x ≡ true) xs
each_true test [] all = tt
each_true test (x ∷ xs) all = let parts = and_parts (test x) (list_all test xs) all in (parts.0, each_true test xs parts.1)

-- one of those that a test leaves, and of which something is true, whose image passes another
some_left : {X Y : Type 0} (P : X → Type 0) (left : X → Bool) (f : X → Y) (passes : Y → Bool) (xs : List X) → AllByRecursion P xs → list_any passes (map f (filter left xs)) ≡ true
    → (x : X) × P x × (passes (f x) ≡ true)
some_left P left f passes [] each some = absurd (false≢true some)
some_left P left f passes (x ∷ xs) each some = elim (cases_Bool (left x)) [
  | inr gone ↦ some_left P left f passes xs each.1 (rw gone at some)
  | inl stays ↦
      let here : (passes (f x) || list_any passes (map f (filter left xs))) ≡ true = rw stays at some in
      elim (cases_Bool (passes (f x))) [
        | inl is ↦ (x, each.0, is)
        | inr fails ↦ some_left P left f passes xs each.1 (rw fails at here)
      ]
]

-- a row of a match has a value at either place of each equality
abbrev HasEither : List Value → List (ℕ × ℕ) → List Value → Type 0
HasEither row [] v = Unit {0}
HasEither row (pair ∷ on) [] = ⊥
HasEither row (pair ∷ on) (x ∷ v) = (cell row pair.0 ≡ x) × ((cell row pair.1 ≡ x) × HasEither row on v)

module _ (items : List PlacedItem) (row : List Value) where
  abbrev made : List Value
  made = map (placed_over (row ∷ [])) items

  copied : (pair : ℕ × ℕ) (item : PlacedItem) (x : Value) → cell row pair.0 ≡ x → cell row pair.1 ≡ x → copies_either pair item ≡ true → placed_over (row ∷ []) item ≡ x
  copied pair item x left right is = of (place_copied item) refl is
    where
      of : (o : Option ℕ) → place_copied item ≡ o → unwrap_or (option_map (λ place. place == pair.0 || place == pair.1) o) false ≡ true → placed_over (row ∷ []) item ≡ x
      of None at is = absurd (false≢true is)
      of (Some place) at is = item_copies (row ∷ []) item place at ∙ elim (cases_Bool (place == pair.0)) [
        | inl first ↦ ap (cell row) (eqb-true place pair.0 first) ∙ left
        | inr other ↦
            let second : (place == pair.1) ≡ true = ap (λ b. b || place == pair.1) (sym other) ∙ is in
            ap (cell row) (eqb-true place pair.1 second) ∙ right
      ]

  -- CARRIED: so the row made of it has the front of the value
  made_front : (on : List (ℕ × ℕ)) (v : List Value) → HasEither row on v → cells (columns_of_on items on) made ≡ take (length (columns_of_on items on)) v
  made_front [] v has = refl
  made_front (pair ∷ on) [] has = absurd has
  made_front (pair ∷ on) (x ∷ v) has = of (made_front on v has.1.1) (position (copies_either pair) items) refl
    where
      columns : Option ℕ → List ℕ
      columns o = unwrap_or (option_map (λ at. at ∷ columns_of_on items on) o) []

      of : cells (columns_of_on items on) made ≡ take (length (columns_of_on items on)) v → (o : Option ℕ) → position (copies_either pair) items ≡ o → cells (columns o) made ≡ take (length (columns o)) (x ∷ v)
      of rest None at = refl
      of rest (Some at) found =
          let d : PlacedItem = placed.Column 0 in
          let found_at = position-Some (copies_either pair) items at d found in
          let item = get_or items at d in
          let here : cell made at ≡ x = made_cell items (row ∷ []) at item (slice_get-get_or items at d found_at.0) ∙ copied pair item x has.0 has.1.0 found_at.1 in
          ap₂ (λ y ys. y ∷ ys) here rest

-- two rows side by side whose joined columns have a value
module _ (scope : Scope) (w : ℕ) (r s : List Value) (as_long : length r ≡ w) where
  abbrev lefts : List ℕ → List Value
  lefts places = map (cell r) (filter (λ p. nat_lt p w) places)

  abbrev rights : List ℕ → List Value
  rights places = map (λ p. cell s (p - w)) (filter (λ p. nat_le w p) places)

  one_more : (a b : ℕ) (rest : List ℕ) (on : List (ℕ × ℕ)) (x y : Bool) → nat_lt a w ≡ x → nat_lt b w ≡ y → ((x && y) || not (x || y)) ≡ false
      → ((u : List Value) → lefts rest ≡ u → rights rest ≡ u → HasEither (r ++ s) on u) → (v : List Value) → lefts (a ∷ b ∷ rest) ≡ v → rights (a ∷ b ∷ rest) ≡ v → HasEither (r ++ s) ((a, b) ∷ on) v
  one_more a b rest on true true ea eb one each v left right = absurd (true≢false one)
  one_more a b rest on false false ea eb one each v left right = absurd (true≢false one)
  one_more a b rest on true false ea eb one each [] left right =
      let l : cell r a ∷ lefts rest ≡ [] = rw (ea, eb) at left in
      absurd cc
  one_more a b rest on true false ea eb one each (x ∷ u) left right =
      let na : nat_le w a ≡ false = grind (arith, nat_tests) in
      let nb : nat_le w b ≡ true = grind (arith, nat_tests) in
      let l : cell r a ∷ lefts rest ≡ x ∷ u = rw (ea, eb) at left in
      let h : cell s (b - w) ∷ rights rest ≡ x ∷ u = rw (na, nb) at right in
      let lx : cell r a ≡ x = cc in
      let lu : lefts rest ≡ u = cc in
      let hx : cell s (b - w) ≡ x = cc in
      let hu : rights rest ≡ u = cc in
      (cell_left r s w a as_long ea ∙ lx, (cell_right r s w b as_long eb ∙ hx, each u lu hu))
  one_more a b rest on false true ea eb one each [] left right =
      let l : cell r b ∷ lefts rest ≡ [] = rw (ea, eb) at left in
      absurd cc
  one_more a b rest on false true ea eb one each (x ∷ u) left right =
      let na : nat_le w a ≡ true = grind (arith, nat_tests) in
      let nb : nat_le w b ≡ false = grind (arith, nat_tests) in
      let l : cell r b ∷ lefts rest ≡ x ∷ u = rw (ea, eb) at left in
      let h : cell s (a - w) ∷ rights rest ≡ x ∷ u = rw (na, nb) at right in
      let lx : cell r b ≡ x = cc in
      let lu : lefts rest ≡ u = cc in
      let hx : cell s (a - w) ≡ x = cc in
      let hu : rights rest ≡ u = cc in
      (cell_right r s w a as_long ea ∙ hx, (cell_left r s w b as_long eb ∙ lx, each u lu hu))

  has_either : (on : List (Ref × Ref)) → list_all (λ e. not (is_one_sided scope w e)) on ≡ true → (v : List Value) → lefts (places_on scope w on) ≡ v → rights (places_on scope w on) ≡ v → HasEither (r ++ s) (map (placed_pair scope) on) v
  has_either [] sides v left right = tt
  has_either (e ∷ on) sides v left right =
      one_more (place_of scope e.0) (place_of scope e.1) (places_on scope w on) (map (placed_pair scope) on) (nat_lt (place_of scope e.0) w) (nat_lt (place_of scope e.1) w) refl refl (not-true _ (and_parts _ _ sides).0)
      (has_either on (and_parts _ _ sides).1) v left right

module _ (m : Migration) (lawful : IsLawfulMigration m) (unit : ℕ) where
  abbrev old : Database
  old = old_of m

  abbrev q : Migrate
  q = m.plan.migrate

  module _ (target : Target) (arm : Arm) (at : unit_at m unit ≡ Some (values_unit target arm)) where
    abbrev scope : Scope
    scope = arm_scope old arm

    abbrev items : List PlacedItem
    items = (placed_arm old arm).items

    abbrev on_pairs : List (ℕ × ℕ)
    on_pairs = map (placed_pair scope) (equalities arm)

    among : IsUnitOf m lawful target arm
    among = unit_among m lawful unit target arm at

    fine : (two_sided old arm && alone_in_groups old arm) ≡ true
    fine =
        all_of_contained (λ arm. two_sided old arm && alone_in_groups old arm) target.arms arm (arms_ok old target (target_unobjected old q lawful.lawful target among.target_among)) among.arm_among

    joined_on : (on : List (ℕ × ℕ)) → (placed_arm old arm).on ≡ Some on → (is_some arm.join ≡ true) × (on ≡ on_pairs)
    joined_on on is = of arm.join is
      where
        of : (o : Option Join) → option_map (λ j. map (placed_pair scope) j.on) o ≡ Some on → (is_some o ≡ true) × (on ≡ map (placed_pair scope) (unwrap_or (option_map (λ j. j.on) o) []))
        of None is = absurd cc
        of (Some j) is = let same : map (placed_pair scope) j.on ≡ on = cc in (refl, sym same)

    -- an arm by values that has a JOIN goes by pairs
    by_pair : is_some arm.join ≡ true → arm_kind old arm ≡ ByPair
    by_pair joins = of (arm_kind old arm) refl
      where
        of : (kind : ArmKind) → arm_kind old arm ≡ kind → kind ≡ ByPair
        of ByFrom is = absurd (false≢true (sym among.by_values ∙ ap is_by_row is))
        of ByJoin is = absurd (false≢true (sym among.by_values ∙ ap is_by_row is))
        of ByPair is = refl
        of ByGroup is =
            let alone : not (is_some arm.join) ≡ true = ap (λ kind. if is_by_group kind then not (is_some arm.join) else true) (sym is) ∙ (and_parts (two_sided old arm) (alone_in_groups old arm) fine).1 in
            absurd (false≢true (ap not (sym joins) ∙ alone))

    module _ (v : List Value) where
      abbrev Fronted : List Value → Type 0
      Fronted row = cells (columns_of_on items on_pairs) row ≡ take (length (columns_of_on items on_pairs)) v

      abbrev from : List (List Value)
      from = from_with old arm ByPair v

      abbrev join : List (List Value)
      join = join_with old arm v

      abbrev IsLeft : List Value → Type 0
      IsLeft r = (length r ≡ width old arm) × (left_value old arm r ≡ v)

      all_left : AllByRecursion IsLeft from
      all_left =
          each_so (λ r. ((length r == width old arm) ≡ true) × (same_key v (left_value old arm r) ≡ true)) IsLeft
          (λ r is. (eqb-true (length r) (width old arm) is.0, sym (equal v (left_value old arm r) is.1))) from
          (each_passes (λ r. (length r == width old arm) ≡ true) (λ r. same_key v (left_value old arm r)) (table_rows old arm.from)
          (each_true (λ r. length r == width old arm) (table_rows old arm.from) (as_wide old lawful.lawful.database arm arm.from)))

      all_right : AllByRecursion (λ s. right_value old arm s ≡ v) join
      all_right =
          each_so (λ s. Unit {0} × (same_key v (right_value old arm s) ≡ true)) (λ s. right_value old arm s ≡ v) (λ s is. sym (equal v (right_value old arm s) is.1)) join
          (each_passes (λ s. Unit {0}) (λ s. same_key v (right_value old arm s)) (rows_of_join old arm.join) (each_always (λ s. Unit {0}) (λ s. tt) (rows_of_join old arm.join)))

      pair_fronted : (r s : List Value) → IsLeft r → right_value old arm s ≡ v → Fronted (map (placed_over ((r ++ s) ∷ [])) items)
      pair_fronted r s left right =
          made_front items (r ++ s) on_pairs v (has_either scope (width old arm) r s left.0 (equalities arm) (and_parts (two_sided old arm) (alone_in_groups old arm) fine).0 v left.1 right)

      all_matched : AllByRecursion (λ row. Fronted (map (placed_over (row ∷ [])) items)) (placed_matches (placed_arm old arm) (Some on_pairs) from join)
      all_matched =
          let P : List Value → Type 0 = λ row. Fronted (map (placed_over (row ∷ [])) items) in
          each_kept P _ (flat_map (λ r. map (λ s. r ++ s) join) from)
          (each_of_blocks P IsLeft (λ r. map (λ s. r ++ s) join) (λ r left. each_of_map P (λ s. right_value old arm s ≡ v) (λ s. r ++ s) (λ s right. pair_fronted r s left right) join all_right) from all_left)

      all_made : is_some arm.join ≡ true → (placed_arm old arm).on ≡ Some on_pairs → AllByRecursion Fronted (arm_rows old arm (from_with old arm (arm_kind old arm) v) join)
      all_made joins on_is =
          let kind_is = by_pair joins in
          let made : List (List Value) → List Value = λ rows. map (placed_over rows) items in
          let kept : List (List Value) → List (List Value) = λ rows. filter (λ row. holds_on (cell row) (placed_arm old arm).cond) rows in
          let matched = placed_matches (placed_arm old arm) (Some on_pairs) from join in
          let is : arm_rows old arm (from_with old arm (arm_kind old arm) v) join ≡ map made (map (λ row. row ∷ []) (kept matched)) =
          placed_alike old arm (from_with old arm (arm_kind old arm) v) join
          ∙ (ap (λ kind. map made (placed_groups (placed_arm old arm) kind (kept (placed_matches (placed_arm old arm) (placed_arm old arm).on (from_with old arm kind v) join)))) kind_is
          ∙ ap (λ o. map made (map (λ row. row ∷ []) (kept (placed_matches (placed_arm old arm) o from join)))) on_is) in
          subst (λ rows. AllByRecursion Fronted rows) (sym is)
          (each_of_map Fronted (λ rows. Fronted (made rows)) made (λ rows fronted. fronted) (map (λ row. row ∷ []) (kept matched))
          (each_of_map (λ rows. Fronted (made rows)) (λ row. Fronted (made (row ∷ []))) (λ row. row ∷ []) (λ row fronted. fronted) (kept matched)
          (each_kept (λ row. Fronted (made (row ∷ []))) _ matched all_matched)))

      part_fronted : is_some arm.join ≡ true → (placed_arm old arm).on ≡ Some on_pairs → AllByRecursion (λ (row : Target × List Value). Fronted row.1) (part_of old q (granule unit (Group v)))
      part_fronted joins on_is =
          subst (λ rows. AllByRecursion (λ (row : Target × List Value). Fronted row.1) rows) (sym (part_is m unit (Group v) _ at))
          (each_of_map (λ (row : Target × List Value). Fronted row.1) Fronted (λ row. (target, row)) (λ row fronted. fronted) (arm_rows old arm (from_with old arm (arm_kind old arm) v) join) (all_made joins on_is))

    carried_by_on : (on : List (ℕ × ℕ)) → (placed_arm old arm).on ≡ Some on → AreCarried m unit (columns_of_on items on)
    carried_by_on on is =
        let told = joined_on on is in
        subst (λ on. AreCarried m unit (columns_of_on items on)) (sym told.1) (λ v. part_fronted v told.0 (is ∙ ap Some told.1))

    few_placed : length items ≤ 64
    few_placed =
        let small = all_of_contained has_small_arms q.targets target lawful.narrow.items among.target_among in
        let few : nat_le (length arm.items) most_columns ≡ true = all_of_contained has_few_items target.arms arm small among.arm_among in
        let counted = length-map arm.items (placed_item scope) in
        let within : length arm.items ≤ 16 = grind (arith, nat_tests) in
        omega (arith, counted, within)

  -- an arm has few items
  pub few_items : (placed : PlacedArm) → IsArmByValues m unit placed → length placed.items ≤ 64
  few_items placed its = subst (λ (p : PlacedArm). length p.items ≤ 64) (sym its.is_placed) (few_placed its.target its.arm its.of_unit)

  -- no columns carry no values
  pub nothing_carried : AreCarried m unit []
  nothing_carried v = each_always (λ (row : Target × List Value). cells [] row.1 ≡ take 0 v) (λ row. refl) (part_of old q (granule unit (Group v)))

  -- so the columns that copy those of ON carry the front of a value
  pub carried : (placed : PlacedArm) → IsArmByValues m unit placed → (on : List (ℕ × ℕ)) → placed.on ≡ Some on → AreCarried m unit (columns_of_on placed.items on)
  carried placed its =
      subst (λ (p : PlacedArm). (on : List (ℕ × ℕ)) → p.on ≡ Some on → AreCarried m unit (columns_of_on p.items on)) (sym its.is_placed) (carried_by_on its.target its.arm its.of_unit)

  -- WITHIN: and a value that gives a row which satisfies a condition is in the range that this leaves to them
  pub value_within : (target : ℕ) (wanted : Cond ℕ) (table : Table) (columns : List ℕ) → AreCarried m unit columns → (v : List Value) → gives m target wanted (granule unit (Group v)) ≡ true
      → is_within (key_range_of (with_key columns table) wanted) v ≡ true
  value_within target wanted table columns carry v given =
      let (p, carries, holds) =
      some_left (λ (row : Target × List Value). cells columns row.1 ≡ take (length columns) v) (λ p. same_name p.0.name (target_at m target).name) (λ p. p.1) (λ row. holds_on (cell row) wanted)
      (part_of old q (granule unit (Group v))) (carry v) given in
      within_by_front wanted columns v (ap (is_within (key_range_of (with_key columns table) wanted)) (sym carries) ∙ key_within (with_key columns table) wanted p.1 holds)
