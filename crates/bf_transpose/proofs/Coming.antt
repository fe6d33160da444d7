-- A row of a driver from which a row comes that is sought satisfies the transposed condition.
use Rattle.std.proofs.Common.{◌≡◌, ℕ, zero, suc, ◌+◌, ◌<◌, Bool, true, false, ◌==◌, cond, eqb, List, [], ◌∷◌, ◌++◌, map, filter, flat_map, length, take, drop, Option, Some, None, option_map, is_some, refl, sym, ap, ap₂, ◌∙◌, inl, inr}
use Rattle.std.specs.Prelude.{slice_get, slice_index_or, slice_range}
use Rattle.std.specs.List.{AllByRecursion, list_all, list_any}
use Rattle.std.specs.Option.{option_and_then}
use Rattle.std.proofs.lemmas.Bool.{and_from, and_parts, cases_Bool, eqb-true, false≢true}
use Rattle.std.proofs.lemmas.List.{append-nil, map-append}
use Rattle.std.proofs.lemmas.List.Elements.{filter-append}
use Rattle.std.proofs.lemmas.Option.{get_or_from_slice_get, slice_get-map, slice_get_within}
use Rattle.bf_base.specs.declared.granule.Place.TheVariants.{Row}
use Rattle.bf_base.specs.declared.table.Table.{Table}
use Rattle.bf_base.specs.declared.value.Value.{Value}
use Rattle.bf_base.specs.Lists.{same_name}
use Rattle.bf_base.specs.Tables.{cell}
use Rattle.bf_base.proofs.Apart.{list_any-filter}
use Rattle.bf_base.proofs.Order.{list_any-map}
use Rattle.bf_heap.specs.Heaps.{Entry}
use Rattle.bf_tree.specs.declared.migration.Arm.{Arm}
use Rattle.bf_tree.specs.declared.migration.Join.{Join}
use Rattle.bf_tree.specs.declared.migration.Migrate.{Migrate}
use Rattle.bf_tree.specs.declared.migration.Target.{Target}
use Rattle.bf_tree.specs.declared.plan.ArmKind.{ArmKind}
use Rattle.bf_tree.specs.declared.plan.ArmKind.TheVariants.{ByFrom, ByJoin, ByPair, ByGroup}
use Rattle.bf_tree.specs.declared.plan.PlacedArm.{PlacedArm}
use Rattle.bf_tree.specs.declared.plan.PlacedItem.{PlacedItem}
use Rattle.bf_tree.specs.declared.plan.Unit.{Unit as Planned}
use Rattle.bf_tree.specs.declared.plan.UnitKind.{UnitKind}
use Rattle.bf_tree.specs.declared.plan.UnitKind.TheVariants.{Rows, Groups, Joins}
use Rattle.bf_tree.specs.Evaluation.{holds_on}
use Rattle.bf_tree.specs.Trees.{Cond}
use Rattle.bf_sql.specs.Database.{Database, table_at, table_rows}
use Rattle.bf_sql.specs.migrations.Granules.{granule, row_at, rows_driven, rows_unit}
use Rattle.bf_sql.specs.migrations.Images.{arm_rows, rows_of_join}
use Rattle.bf_sql.specs.migrations.Placed.{placed_arm, placed_groups, placed_matches, placed_over, placed_pair}
use Rattle.bf_sql.specs.migrations.Plans.{rows_unit_of}
use Rattle.bf_sql.specs.migrations.Targets.{arm_kind, arm_scope, first_arm, names_of_join, width}
use Rattle.bf_image.specs.BoundArms.{arm_at}
use Rattle.bf_image.specs.Migrations.{IsLawfulMigration, old_of, source_of, target_at}
use Rattle.bf_image.specs.PlannedUnits.{arm_named, form_by, target_named, unit_form}
use Rattle.bf_image.specs.declared.migration.Frozen.{Frozen}
use Rattle.bf_image.specs.declared.migration.Migration.{Migration}
use Rattle.bf_image.proofs.finding.Found.{alone_true, any_always, any_of_blocks}
use Rattle.bf_image.proofs.finding.Looked.{one_row}
use Rattle.bf_image.proofs.making.PlacedArms.{placed_alike}
use Rattle.bf_image.proofs.making.Unobjected.{as_wide, joins_by_join}
use Rattle.bf_image.proofs.owning.Stored.{rows_are, table_is}
use Rattle.bf_image.proofs.owning.Targets.{name_tells_number}
use Rattle.bf_image.proofs.parting.UnitParts.{part, part_by_rows}
use Rattle.bf_image.proofs.planning.Driven.{IsNamed, driven_named, part_by_numbers, rows_by_numbers}
use Rattle.bf_image.proofs.planning.Units.{planned_as, unit_at_number}
use Rattle.bf_transpose.specs.Scans.{IsDriverOf, gives}
use Rattle.bf_transpose.specs.Transposed.{AreCopies, begins_at, column_copied, transposed}
use Rattle.bf_transpose.specs.declared.transposed.Copies.{Copies}
use Rattle.bf_transpose.proofs.Transposing.{made_held, stands_alone, stands_left, stands_right}

-- where some item passes a test
module _ {X : Type 0} where
  any_kept : (p kept : X → Bool) (xs : List X) → list_any p (filter kept xs) ≡ true → list_any p xs ≡ true
  any_kept p kept xs some = elim (cases_Bool (list_any p xs)) [
    | inl is ↦ is
    | inr none ↦ absurd (false≢true (sym (list_any-filter p kept xs none) ∙ some))
  ]

  any_so : (p q ok : X → Bool) → ((x : X) → ok x ≡ true → p x ≡ true → q x ≡ true) → (xs : List X) → list_all ok xs ≡ true → list_any p xs ≡ true → list_any q xs ≡ true
  any_so p q ok one [] all some = some
  any_so p q ok one (x ∷ xs) all some = any_of_blocks p q ok (λ y. y ∷ []) (λ y fine some. one y fine (alone_true (p y) some)) (x ∷ xs) all (ap (list_any p) (singles (x ∷ xs)) ∙ some)
    where
      singles : (ys : List X) → flat_map (λ y. y ∷ []) ys ≡ ys
      singles [] = refl
      singles (y ∷ ys) = ap (λ zs. y ∷ zs) (singles ys)

  always : (xs : List X) → list_all (λ x. true) xs ≡ true
  always [] = refl
  always (x ∷ xs) = always xs

  -- the one item of a place
  first_left : (xs : List X) (at : ℕ) (x : X) → slice_get xs at ≡ Some x → take 1 (drop at xs) ≡ x ∷ []
  first_left [] at x is = absurd cc
  first_left (y ∷ ys) zero x is = let same : y ≡ x = cc in ap (λ z. z ∷ []) same
  first_left (y ∷ ys) (suc at) x is = first_left ys at x is

  pub alone_at : (xs : List X) (at : ℕ) (x : X) → slice_get xs at ≡ Some x → slice_range xs at (at + 1) ≡ x ∷ []
  alone_at xs at x is = one_row xs at ∙ first_left xs at x is

  all_at : (test : X → Bool) (xs : List X) (at : ℕ) (x : X) → list_all test xs ≡ true → slice_get xs at ≡ Some x → test x ≡ true
  all_at test [] at x all is = absurd cc
  all_at test (y ∷ ys) zero x all is = let same : y ≡ x = cc in ap test (sym same) ∙ (and_parts (test y) _ all).0
  all_at test (y ∷ ys) (suc at) x all is = all_at test ys at x (and_parts (test y) _ all).1 is

-- a match of rows of two tables that passes a test tells of the row of either
module _ (arm : PlacedArm) (p q wide : List Value → Bool) where
  from_matched : ((r : List Value) → wide r ≡ true → p r ≡ true → q r ≡ true) → ((r s : List Value) → wide r ≡ true → p (r ++ s) ≡ true → q r ≡ true)
      → (on : Option (List (ℕ × ℕ))) (from join : List (List Value)) → list_all wide from ≡ true → list_any p (placed_matches arm on from join) ≡ true → list_any q from ≡ true
  from_matched alone paired None from join all some = any_so p q wide alone from all some
  from_matched alone paired (Some on) from join all some =
      any_of_blocks p q wide (λ r. map (λ s. r ++ s) join)
      (λ r fine some. any_always (q r) join (any_so (λ s. p (r ++ s)) (λ s. q r) (λ s. true) (λ s t passes. paired r s fine passes) join (always join) (sym (list_any-map p (λ s. r ++ s) join) ∙ some)))
      from all (any_kept p _ (flat_map (λ r. map (λ s. r ++ s) join) from) some)

  join_matched : ((r s : List Value) → wide r ≡ true → p (r ++ s) ≡ true → q s ≡ true)
      → (on : List (ℕ × ℕ)) (from join : List (List Value)) → list_all wide from ≡ true → list_any p (placed_matches arm (Some on) from join) ≡ true → list_any q join ≡ true
  join_matched paired on from join all some =
      any_always (list_any q join) from
      (any_of_blocks p (λ r. list_any q join) wide (λ r. map (λ s. r ++ s) join)
      (λ r fine some. any_so (λ s. p (r ++ s)) q (λ s. true) (λ s t passes. paired r s fine passes) join (always join) (sym (list_any-map p (λ s. r ++ s) join) ∙ some))
      from all (any_kept p _ (flat_map (λ r. map (λ s. r ++ s) join) from) some))

module _ (m : Migration) (lawful : IsLawfulMigration m) (wanted : Cond ℕ) where
  abbrev old : Database
  old = old_of m

  abbrev passes : List Value → Bool
  passes row = holds_on (cell row) wanted

  module _ (arm : Arm) where
    abbrev items : List PlacedItem
    items = (placed_arm old arm).items

    -- whether a row that is made of one match is sought
    abbrev made_passes : List Value → Bool
    made_passes row = passes (map (placed_over (row ∷ [])) items)

    abbrev matches : List (List Value) → List (List Value) → List (List Value)
    matches from join = placed_matches (placed_arm old arm) (placed_arm old arm).on from join

    -- the columns of FROM stand in front, and those of JOIN behind them
    pub from_held : (count : ℕ) (from join : List (List Value)) → list_all (λ r. length r == count) from ≡ true → list_any made_passes (matches from join) ≡ true
        → list_any (λ r. holds_on (cell r) (transposed (column_copied items 0 count) wanted)) from ≡ true
    from_held count from join all some =
        from_matched (placed_arm old arm) made_passes (λ r. holds_on (cell r) (transposed (column_copied items 0 count) wanted)) (λ r. length r == count)
        (λ r fine holds. made_held items 0 count (r ∷ []) r wanted (stands_alone r count) holds)
        (λ r s fine holds. made_held items 0 count ((r ++ s) ∷ []) r wanted (stands_left r s count (eqb-true (length r) count fine)) holds)
        (placed_arm old arm).on from join all some

    pub join_held : (count : ℕ) (from join : List (List Value)) → arm_kind old arm ≡ ByJoin → list_all (λ r. length r == width old arm) from ≡ true → list_any made_passes (matches from join) ≡ true
        → list_any (λ s. holds_on (cell s) (transposed (column_copied items (width old arm) count) wanted)) join ≡ true
    join_held count from join by_join all some = of arm.join refl some
      where
        of : (o : Option Join) → arm.join ≡ o → list_any made_passes (placed_matches (placed_arm old arm) (option_map (λ j. map (placed_pair (arm_scope old arm)) j.on) o) from join) ≡ true
            → list_any (λ s. holds_on (cell s) (transposed (column_copied items (width old arm) count) wanted)) join ≡ true
        of None is some = absurd (false≢true (sym (ap is_some is) ∙ joins_by_join _ (is_some arm.join) _ _ by_join))
        of (Some j) is some =
            join_matched (placed_arm old arm) made_passes (λ s. holds_on (cell s) (transposed (column_copied items (width old arm) count) wanted)) (λ r. length r == width old arm)
            (λ r s fine holds. made_held items (width old arm) count ((r ++ s) ∷ []) s wanted (stands_right r s (width old arm) count (eqb-true (length r) (width old arm) fine)) holds)
            (map (placed_pair (arm_scope old arm)) j.on) from join all some

    abbrev groups : ArmKind → List (List Value) → List (List (List Value))
    groups kind rows = placed_groups (placed_arm old arm) kind rows

    -- an arm that makes rows of single matches makes one that is sought of one of them
    pub of_matches : (kind : ArmKind) → arm_kind old arm ≡ kind → ((rows : List (List Value)) → groups kind rows ≡ map (λ row. row ∷ []) rows)
        → (from join : List (List Value)) → list_any passes (arm_rows old arm from join) ≡ true → list_any made_passes (matches from join) ≡ true
    of_matches kind is single from join some =
        let made : List (List Value) → List Value = λ rows. map (placed_over rows) items in
        let kept = filter (λ row. holds_on (cell row) (placed_arm old arm).cond) (matches from join) in
        let grouped : groups (arm_kind old arm) kept ≡ map (λ row. row ∷ []) kept = ap (λ k. groups k kept) is ∙ single kept in
        any_kept made_passes _ (matches from join)
        (sym (list_any-map (λ rows. passes (made rows)) (λ row. row ∷ []) kept)
        ∙ (sym (list_any-map passes made (map (λ row. row ∷ []) kept))
        ∙ (ap (λ gs. list_any passes (map made gs)) (sym grouped) ∙ (ap (list_any passes) (sym (placed_alike old arm from join)) ∙ some))))

    module _ (driver : List ℕ) (at : ℕ) (row : List Value) (there : slice_get (table_rows old driver) at ≡ Some row) where
      abbrev count : ℕ
      count = length (table_at old driver).columns

      here : row_at old arm driver at ≡ row ∷ []
      here = alone_at (table_rows old driver) at row there

      wide : (length row == count) ≡ true
      wide = all_at (λ r. length r == count) (table_rows old driver) at row (as_wide old lawful.lawful.database arm driver) there

      by_from : arm_kind old arm ≡ ByFrom → list_any passes (arm_rows old arm (row_at old arm driver at) (rows_of_join old arm.join)) ≡ true → holds_on (cell row) (transposed (column_copied items 0 count) wanted) ≡ true
      by_from is some =
          let alone = ap (λ rows. list_any passes (arm_rows old arm rows (rows_of_join old arm.join))) (sym here) ∙ some in
          alone_true _ (from_held count (row ∷ []) (rows_of_join old arm.join) (and_from _ _ wide refl) (of_matches ByFrom is (λ rows. refl) (row ∷ []) (rows_of_join old arm.join) alone))

      by_join : arm_kind old arm ≡ ByJoin → list_any passes (arm_rows old arm (table_rows old arm.from) (row_at old arm driver at)) ≡ true → holds_on (cell row) (transposed (column_copied items (width old arm) count) wanted) ≡ true
      by_join is some =
          let alone = ap (λ rows. list_any passes (arm_rows old arm (table_rows old arm.from) rows)) (sym here) ∙ some in
          alone_true _ (join_held count (table_rows old arm.from) (row ∷ []) is (as_wide old lawful.lawful.database arm arm.from) (of_matches ByJoin is (λ rows. refl) (table_rows old arm.from) (row ∷ []) alone))

      -- DRIVEN: so a driver's row of which an arm makes a row that is sought satisfies the transposed condition
      pub driven_held : (kind : ArmKind) → arm_kind old arm ≡ kind → list_any passes (rows_driven old arm kind driver at) ≡ true
          → holds_on (cell row) (transposed (column_copied items (begins_at kind (width old arm)) count) wanted) ≡ true
      driven_held ByFrom is some = of (same_name arm.from driver) some
        where
          of : (b : Bool) → list_any passes (cond b (arm_rows old arm (row_at old arm driver at) (rows_of_join old arm.join)) []) ≡ true → holds_on (cell row) (transposed (column_copied items 0 count) wanted) ≡ true
          of true some = by_from is some
          of false some = absurd (false≢true some)
      driven_held ByJoin is some = of (list_any (same_name driver) (names_of_join arm)) some
        where
          of : (b : Bool) → list_any passes (cond b (arm_rows old arm (table_rows old arm.from) (row_at old arm driver at)) []) ≡ true → holds_on (cell row) (transposed (column_copied items (width old arm) count) wanted) ≡ true
          of true some = by_join is some
          of false some = absurd (false≢true some)
      driven_held ByPair is some = absurd (false≢true some)
      driven_held ByGroup is some = absurd (false≢true some)

  module _ (target : ℕ) (within : target < length m.plan.migrate.targets) where
    abbrev q : Migrate
    q = m.plan.migrate

    abbrev is_named : Target × List Value → Bool
    is_named p = same_name p.0.name (target_at m target).name

    abbrev row_of : Target × List Value → List Value
    row_of p = p.1

    its_rows : (s : Target) (b : Bool) → same_name s.name (target_at m target).name ≡ b → (rows : List (List Value)) → map row_of (filter is_named (map (λ row. (s, row)) rows)) ≡ cond b rows []
    its_rows s true is [] = refl
    its_rows s false is [] = refl
    its_rows s true is (row ∷ rows) =
        let rest : List (Target × List Value) = filter is_named (map (λ row. (s, row)) rows) in
        ap (λ b. map row_of (cond b ((s, row) ∷ rest) rest)) is ∙ ap (λ rs. row ∷ rs) (its_rows s true is rows)
    its_rows s false is (row ∷ rows) =
        let rest : List (Target × List Value) = filter is_named (map (λ row. (s, row)) rows) in
        ap (λ b. map row_of (cond b ((s, row) ∷ rest) rest)) is ∙ its_rows s false is rows

    module _ (driver : List ℕ) (at : ℕ) where
      abbrev rows_by : ℕ × ℕ → List (List Value)
      rows_by pair = rows_driven old (arm_named q pair) (arm_kind old (arm_named q pair)) driver at

      -- the rows of the target are those of its arms
      named_rows : (pairs : List (ℕ × ℕ)) → AllByRecursion (IsNamed q) pairs
          → map row_of (filter is_named (flat_map (rows_by_numbers old q driver at) pairs)) ≡ flat_map rows_by (filter (λ pair. eqb pair.0 target) pairs)
      named_rows [] all = refl
      named_rows (p ∷ ps) all =
          let front = rows_by_numbers old q driver at p in
          let behind = flat_map (rows_by_numbers old q driver at) ps in
          let tells = name_tells_number m lawful p.0 target (slice_get_within q.targets p.0 (target_named q p.0) all.0.of) within in
          ap (map row_of) (filter-append is_named front behind)
          ∙ (map-append row_of (filter is_named front) (filter is_named behind)
          ∙ (ap₂ (λ xs ys. xs ++ ys) (its_rows (target_named q p.0) (eqb p.0 target) tells (rows_by p)) (named_rows ps all.1)
          ∙ spread (eqb p.0 target) (filter (λ pair. eqb pair.0 target) ps)))
        where
          spread : (b : Bool) (rest : List (ℕ × ℕ)) → (cond b (rows_by p) [] ++ flat_map rows_by rest) ≡ flat_map rows_by (cond b (p ∷ rest) rest)
          spread true rest = refl
          spread false rest = refl

    module _ (unit : ℕ) (planned : Planned) (here : slice_get m.plan.units unit ≡ Some planned) (frozen : Frozen) (driven : IsDriverOf m unit frozen) where
      form_is : unit_form q planned ≡ rows_unit driven.driver
      form_is =
          let both : Some (unit_form q planned) ≡ Some (rows_unit driven.driver) = sym (ap (option_map (unit_form q)) here) ∙ (sym (unit_at_number m lawful unit) ∙ driven.form) in
          cc

      by_rows : (kind : UnitKind) → planned.kind ≡ kind → form_by q kind planned.driver planned.arms ≡ rows_unit driven.driver → (planned.kind ≡ Rows) × (planned.driver ≡ driven.driver)
      by_rows Rows is form = let same : planned.driver ≡ driven.driver = cc in (is, same)
      by_rows Groups is form = absurd cc
      by_rows Joins is form = absurd cc

      pub kind_is : (planned.kind ≡ Rows) × (planned.driver ≡ driven.driver)
      kind_is = by_rows planned.kind refl form_is

      found : source_of m planned.driver ≡ Some frozen
      found = ap (source_of m) kind_is.1 ∙ driven.found

      -- where the target has one arm in the unit
      module _ (number : ℕ) (only : filter (λ (pair : ℕ × ℕ). eqb pair.0 target) planned.arms ≡ (target, number) ∷ []) (arm : Arm) (there : arm_at m target number ≡ Some arm) (at : ℕ) where
        pub arm_is : arm_named q (target, number) ≡ arm
        arm_is = of (slice_get q.targets target) refl there
          where
            of : (o : Option Target) → slice_get q.targets target ≡ o → option_and_then (λ (s : Target). slice_get s.arms number) o ≡ Some arm → arm_named q (target, number) ≡ arm
            of None is there = absurd cc
            of (Some s) is there =
                ap (λ (s : Target). slice_index_or s.arms number (first_arm [])) (get_or_from_slice_get q.targets target s _ is) ∙ get_or_from_slice_get s.arms number arm _ there

        pub only_planned : filter (λ (pair : ℕ × ℕ). eqb pair.0 target) (rows_unit_of old q planned.driver).arms ≡ (target, number) ∷ []
        only_planned = ap (λ (u : Planned). filter (λ (pair : ℕ × ℕ). eqb pair.0 target) u.arms) (sym (planned_as m lawful unit planned here Rows kind_is.0)) ∙ only

        -- the rows of a granule that the target has are those of that arm
        pub rows_alone : map row_of (filter is_named (part m unit (Row at))) ≡ rows_driven old arm (arm_kind old arm) planned.driver at
        rows_alone =
            ap (λ ps. map row_of (filter is_named ps)) (part_by_rows m lawful unit at planned here kind_is.0 ∙ part_by_numbers old q planned.driver at)
            ∙ (named_rows planned.driver at (rows_unit_of old q planned.driver).arms (driven_named old q planned.driver)
            ∙ (ap (flat_map (rows_by planned.driver at)) only_planned
            ∙ (append-nil (rows_by planned.driver at (target, number)) ∙ ap (λ (arm : Arm). rows_driven old arm (arm_kind old arm) planned.driver at) arm_is)))

      module _ (copies : Copies) (are : AreCopies m target planned frozen copies) (at : ℕ) where
        -- CAME: and so a row from which one comes that is sought satisfies the transposed condition
        pub came : (entry : Entry) → slice_get frozen.rows at ≡ Some entry → gives m target wanted (granule unit (Row at)) ≡ true
            → holds_on (cell entry.1) (transposed (column_copied copies.items.now copies.first copies.count) wanted) ≡ true
        came entry there given =
            let row_there : slice_get (table_rows old planned.driver) at ≡ Some entry.1 =
            ap (λ rows. slice_get rows at) (rows_are m planned.driver frozen found) ∙ (slice_get-map (λ (e : Entry). e.1) frozen.rows at ∙ ap (option_map (λ (e : Entry). e.1)) there) in
            let counted = are.count ∙ ap (λ (t : Table). length t.columns) (sym (table_is m planned.driver frozen found)) in
            let alone = rows_alone are.number are.only are.arm are.at at in
            (λ i. holds_on (cell entry.1) (transposed (column_copied (are.items i) (are.first i) (counted i)) wanted))
            ∙ driven_held are.arm planned.driver at entry.1 row_there (arm_kind old are.arm) refl (ap (list_any passes) (sym alone) ∙ given)
