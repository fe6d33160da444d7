-- The owner of a key is the candidate whose part has a row with the key.
use Rattle.std.proofs.Common.{◌≡◌, ℕ, zero, suc, ◌+◌, ◌<◌, ◌≤◌, Bool, true, false, not, ◌&&◌, ◌||◌, ◌==◌, nat_lt, cond, if◌then◌else◌, List, [], ◌∷◌, ◌++◌, map, filter, flat_map, find, length, position, take, drop, slice_range, Option, Some, None, is_some, refl, sym, ap, subst, ◌∙◌, arith}
use Rattle.std.specs.Prelude.{option_map, unwrap_or, slice_index_or}
use Rattle.std.specs.List.{list_any, list_all, filter_map, range_with_len, AllByRecursion, Contains}
use Rattle.std.specs.Option.{option_to_list}
use Rattle.std.proofs.lemmas.Bool.{and_parts, and_from, or_parts, or_left, or_right, not-true, false≢true, eq-eqb}
use Rattle.std.proofs.lemmas.List.{length-map}
use Rattle.std.proofs.lemmas.Bool.Decides.{nat_tests}
use Rattle.std.proofs.lemmas.List.Folds.{list_any-append, flat_map-map}
use Rattle.std.proofs.lemmas.List.Quantifiers.{position-Some}
use Rattle.bf_base.specs.declared.value.Value.{Value}
use Rattle.bf_base.specs.declared.granule.Place.{Place}
use Rattle.bf_base.specs.declared.granule.Place.TheVariants.{Row, Group}
use Rattle.bf_base.specs.Values.{key_cmp, key_cmp_total, key_cmp-IsAntisymmetric}
use Rattle.bf_base.specs.Lists.{same_name, same_key, has, in_order}
use Rattle.bf_base.specs.Tables.{cell, key_of}
use Rattle.bf_base.proofs.Apart.{are_apart}
use Rattle.bf_base.proofs.Order.{list_any-map}
use Rattle.bf_base.proofs.Parts.{flat_map-flat_map}
use Rattle.bf_base.specs.Distinct.{distinct}
use Rattle.bf_tree.specs.declared.migration.Join.{Join}
use Rattle.bf_tree.specs.declared.migration.Arm.{Arm}
use Rattle.bf_tree.specs.declared.migration.Target.{Target}
use Rattle.bf_tree.specs.declared.migration.Migrate.{Migrate}
use Rattle.bf_tree.specs.declared.plan.ArmKind.{ArmKind}
use Rattle.bf_tree.specs.declared.plan.ArmKind.TheVariants.{ByFrom, ByJoin, ByPair, ByGroup}
use Rattle.bf_sql.specs.Database.{Database, IsDatabase, table_rows}
use Rattle.bf_sql.specs.migrations.Targets.{arm_kind, key_items, first_arm, from_key, names_of_join, target_table}
use Rattle.bf_sql.specs.migrations.MigrationObjections.{drivers_of, is_by_row, is_by_group, tag_of, keeps_apart}
use Rattle.bf_sql.specs.migrations.Images.{arm_rows, rows_of_join}
use Rattle.bf_sql.specs.migrations.Granules.{UnitForm, rows_unit, values_unit, arms_of, units_of, rows_driven, from_with, join_with, left_value, right_value, anchor_values, places_in, granules_of, part_at, owner_of, same_place}
use Rattle.bf_image.specs.Laws.{owns}
use Rattle.bf_image.specs.Lawful.{IsLawful}
use Rattle.bf_image.specs.Lookup.{behind_tag, has_the_key, row_with, values_by, places_by, candidates}
use Rattle.bf_image.proofs.items.Lists.{all_both}
use Rattle.bf_index.proofs.Bags.{blocks_equal, map_of_blocks}
use Rattle.bf_image.proofs.items.Names.{name-equal, name-symmetric}
use Rattle.bf_index.proofs.Values.{values_in_order-has}
use Rattle.bf_image.proofs.making.Arms.{made, rows_by, key-equal, key-itself, key-symmetric}
use Rattle.bf_image.proofs.cutting.Parts.{labelled, driven, as_driven, if_there, if_absent}
use Rattle.bf_image.proofs.cutting.Targets.{named, named_labelled, named_blocks, has_at_place, one_of_name, new_names}
use Rattle.bf_image.proofs.making.Unobjected.{two_sided, alone_in_groups, arms_ok, key_there, joins_by_join, joins_by_pair, names_new}
use Rattle.bf_image.proofs.making.Keys.{key_places, key_of_made}
use Rattle.bf_image.proofs.making.ArmKeys.{key_in, keys_apart}
use Rattle.bf_image.proofs.making.Unions.{same_cons, keeps, arms_keep, alike, with_first, same_places, same_places_itself}
use Rattle.bf_image.proofs.finding.Owned.{one_owner, target_unobjected}
use Rattle.bf_image.proofs.finding.Found.{alone_true, any_of_each, any_always, found_apart, carried, same_find}
use Rattle.bf_image.proofs.finding.Looked.{position_at, Tells, from_told, join_told, pair_told, group_told}

module _ {X : Type 0} where
  each_from : (ok : X → Bool) (P : X → Type 0) → ((x : X) → ok x ≡ true → P x) → (xs : List X) → list_all ok xs ≡ true → AllByRecursion P xs
  each_from ok P one [] all = tt
  each_from ok P one (x ∷ xs) all = (one x (and_parts _ _ all).0, each_from ok P one xs (and_parts _ _ all).1)

  each_so : (P Q : X → Type 0) → ((x : X) → P x → Q x) → (xs : List X) → AllByRecursion P xs → AllByRecursion Q xs
  each_so P Q one [] all = tt
  each_so P Q one (x ∷ xs) all = (one x all.0, each_so P Q one xs all.1)

  each_append : (P : X → Type 0) (xs ys : List X) → AllByRecursion P xs → AllByRecursion P ys → AllByRecursion P (xs ++ ys)
  each_append P [] ys h g = g
  each_append P (x ∷ xs) ys h g = (h.0, each_append P xs ys h.1 g)

  each_filtered : (P Q : X → Type 0) (test : X → Bool) → ((x : X) → test x ≡ true → P x → Q x) → (xs : List X) → AllByRecursion P xs → AllByRecursion Q (filter test xs)
  each_filtered P Q test one [] all = tt
  each_filtered P Q test one (x ∷ xs) all = of (test x) refl (each_filtered P Q test one xs all.1)
    where
      of : (b : Bool) → test x ≡ b → AllByRecursion Q (filter test xs) → AllByRecursion Q (cond (test x) (x ∷ filter test xs) (filter test xs))
      of true at rest = subst (λ b. AllByRecursion Q (cond b (x ∷ filter test xs) (filter test xs))) (sym at) (one x at all.0, rest)
      of false at rest = subst (λ b. AllByRecursion Q (cond b (x ∷ filter test xs) (filter test xs))) (sym at) rest

each_of_map : {X Y : Type 0} (P : Y → Type 0) (f : X → Y) (xs : List X) → AllByRecursion (λ x. P (f x)) xs → AllByRecursion P (map f xs)
each_of_map P f [] all = tt
each_of_map P f (x ∷ xs) all = (all.0, each_of_map P f xs all.1)

each_of_blocks : {X Y : Type 0} (P : Y → Type 0) (f : X → List Y) (xs : List X) → AllByRecursion (λ x. AllByRecursion P (f x)) xs → AllByRecursion P (flat_map f xs)
each_of_blocks P f [] all = tt
each_of_blocks P f (x ∷ xs) all = each_append P (f x) (flat_map f xs) all.0 (each_of_blocks P f xs all.1)

module _ (old : Database) (is : IsDatabase old) where
  -- what is told of the arms of a target, with a tag or without
  abbrev told_by : Bool → Arm → List Value → List Value → Bool
  told_by tagged first key row = same_key key (map (cell row) (filter_map (λ k. k) (if tagged then Some 0 ∷ key_items old first else key_items old first)))

  abbrev rest_of : Bool → List Value → List Value
  rest_of tagged key = if tagged then drop 1 key else key

  abbrev ArmTells : Bool → Arm → List Value → Arm → Type 0
  ArmTells tagged first key arm =
      Tells old is arm (rest_of tagged key) (told_by tagged first key) (arm_kind old arm) × (two_sided old arm ≡ true) × (alone_in_groups old arm ≡ true) × (is_by_row (arm_kind old arm) ≡ false → rest_of tagged key ≡ key)

  tagged_tells : (first arm : Arm) → list_all is_some (key_items old arm) ≡ true → key_items old first ≡ key_items old arm → (key : List Value) → Tells old is arm (drop 1 key) (told_by true first key) (arm_kind old arm)
  tagged_tells first arm there same [] rows h = absurd (false≢true h)
  tagged_tells first arm there same (v ∷ k) rows h =
      let both = and_parts _ _ (sym (same_cons v (cell (made old arm rows) 0) k (map (cell (made old arm rows)) (key_places old first))) ∙ h) in
      ap (same_key k) (sym (ap (λ items. map (cell (made old arm rows)) (filter_map (λ k. k) items)) same ∙ key_of_made old arm there rows)) ∙ both.1

  abbrev fine_among : Arm → Arm → Bool
  fine_among first arm = (keeps old is arm && alone_in_groups old arm) && (alike old is first arm && is_by_row (arm_kind old arm))

  arms_tell : (arms : List Arm) → list_all (λ arm. keeps old is arm && alone_in_groups old arm) arms ≡ true → (nat_lt (length arms) 2 || keeps_apart old arms) ≡ true → (key : List Value) → AllByRecursion (ArmTells (nat_lt 1 (length arms)) (first_arm arms) key) arms
  arms_tell [] fine apart key = tt
  arms_tell (arm ∷ []) fine apart key =
      let both = and_parts (keeps old is arm) _ (and_parts _ _ fine).0 in
      let kept = and_parts (list_all is_some (key_items old arm)) _ both.0 in
      ((λ rows h. ap (same_key key) (sym (key_of_made old arm kept.0 rows)) ∙ h, kept.1, both.1, λ e. refl), tt)
  arms_tell (a ∷ b ∷ arms) fine apart key =
      let more : nat_lt 1 (length (a ∷ b ∷ arms)) ≡ true = grind (arith, nat_tests) in
      let few : nat_lt (length (a ∷ b ∷ arms)) 2 ≡ false = grind (arith, nat_tests) in
      let parts = and_parts (list_all (λ arm. is_by_row (arm_kind old arm) && is_some (tag_of arm.items)) (a ∷ b ∷ arms) && _) _ (sym (ap (λ c. c || keeps_apart old (a ∷ b ∷ arms)) few) ∙ apart) in
      let tags = and_parts (list_all (λ arm. is_by_row (arm_kind old arm) && is_some (tag_of arm.items)) (a ∷ b ∷ arms)) _ parts.0 in
      let all_alike : list_all (alike old is a) (a ∷ b ∷ arms) ≡ true = and_from _ _ (same_places_itself old is (key_items old a)) (with_first (alike old is) a [] (b ∷ arms) parts.1) in
      let rows_only : list_all (λ arm. alike old is a arm && is_by_row (arm_kind old arm)) (a ∷ b ∷ arms) ≡ true =
      all_both (alike old is a) (λ arm. is_by_row (arm_kind old arm) && is_some (tag_of arm.items)) (λ arm. alike old is a arm && is_by_row (arm_kind old arm)) (λ arm l r. and_from _ _ l (and_parts _ _ r).0) (a ∷ b ∷ arms) all_alike tags.0 in
      let all_fine : list_all (fine_among a) (a ∷ b ∷ arms) ≡ true =
      all_both (λ arm. keeps old is arm && alone_in_groups old arm) (λ arm. alike old is a arm && is_by_row (arm_kind old arm)) (fine_among a) (λ arm l r. and_from _ _ l r) (a ∷ b ∷ arms) fine rows_only in
      subst (λ tagged. AllByRecursion (ArmTells tagged a key) (a ∷ b ∷ arms)) (sym more) (each_from (fine_among a) (ArmTells true a key) one (a ∷ b ∷ arms) all_fine)
    where
      one : (arm : Arm) → fine_among a arm ≡ true → ArmTells true a key arm
      one arm fine =
          let halves = and_parts (keeps old is arm && alone_in_groups old arm) (alike old is a arm && is_by_row (arm_kind old arm)) fine in
          let first = and_parts (keeps old is arm) (alone_in_groups old arm) halves.0 in
          let kept = and_parts (list_all is_some (key_items old arm)) (two_sided old arm) first.0 in
          let second = and_parts (alike old is a arm) (is_by_row (arm_kind old arm)) halves.1 in
          (tagged_tells a arm kept.0 (same_places (key_items old a) (key_items old arm) second.0) key, kept.1, first.1, λ e. absurd (false≢true (sym e ∙ second.1)))

-- the target of a name is one
named_is : (t : Target) (xs : List Target) (k : ℕ) → k < length xs → slice_index_or xs k t ≡ t → are_apart same_name (map (λ x. x.name) xs) ≡ true → AllByRecursion (λ x. same_name x.name t.name ≡ true → x ≡ t) xs
named_is t [] k less e apart = tt
named_is t (x ∷ xs) zero less e apart = (λ h. e, none xs (ap (λ (y : Target). has same_name (map (λ x. x.name) xs) y.name) (sym e) ∙ not-true _ (and_parts _ _ apart).0))
  where
    none : (ys : List Target) → has same_name (map (λ x. x.name) ys) t.name ≡ false → AllByRecursion (λ x. same_name x.name t.name ≡ true → x ≡ t) ys
    none [] h = tt
    none (y ∷ ys) h = (λ is. absurd (false≢true (sym (or_parts _ _ h).0 ∙ name-symmetric t.name y.name ∙ is)), none ys (or_parts _ _ h).1)
named_is t (x ∷ xs) (suc k) less e apart = (λ is. absurd (false≢true (sym (not-true _ (and_parts _ _ apart).0) ∙ ap (has same_name (map (λ x. x.name) xs)) (name-equal x.name t.name is) ∙ has_at_place t xs k (omega arith) e)), named_is t xs k (omega arith) e (and_parts _ _ apart).1)

no_group : (v : List Value) (ns : List ℕ) → has same_place (map Row ns) (Group v) ≡ false
no_group v [] = refl
no_group v (n ∷ ns) = no_group v ns

in_range : (a n at : ℕ) → a ≤ at → at < a + n → has same_place (map Row (range_with_len a n)) (Row at) ≡ true
in_range a zero at low high = absurd (omega arith)
in_range a (suc n) at low high = of (at == a) refl (λ above. in_range (a + 1) n at above (omega arith))
  where
    of : (b : Bool) → (at == a) ≡ b → (a + 1 ≤ at → has same_place (map Row (range_with_len (a + 1) n)) (Row at) ≡ true) → ((at == a) || has same_place (map Row (range_with_len (a + 1) n)) (Row at)) ≡ true
    of true e rest = or_left _ _ e
    of false e rest = let above : a + 1 ≤ at = grind (arith, nat_tests) in or_right _ _ (rest above)

has_value : (v : List Value) (vs : List (List Value)) → has same_place (map Group vs) (Group v) ≡ has same_key vs v
has_value v [] = refl
has_value v (w ∷ vs) = ap (λ b. same_key v w || b) (has_value v vs)

any_less : {X : Type 0} (p q : X → Bool) → ((x : X) → p x ≡ true → q x ≡ true) → (xs : List X) → list_any p xs ≡ true → list_any q xs ≡ true
any_less p q one [] some = some
any_less p q one (x ∷ xs) some = of (p x) refl (any_less p q one xs)
  where
    of : (b : Bool) → p x ≡ b → (list_any p xs ≡ true → list_any q xs ≡ true) → (q x || list_any q xs) ≡ true
    of true at rest = or_left _ _ (one x at)
    of false at rest = or_right _ _ (rest (sym (ap (λ b. b || list_any p xs) at) ∙ some))

-- a unit has one candidate at most
module _ (old : Database) (t : Target) (key : List Value) where
  one_at_most : {X : Type 0} (o : Option X) → length (option_to_list o) ≤ 1
  one_at_most None = omega arith
  one_at_most (Some x) = omega arith

  few_values : (arm : Arm) (kind : ArmKind) → length (values_by old arm key kind) ≤ 1
  few_values arm ByFrom = omega arith
  few_values arm ByJoin = omega arith
  few_values arm ByGroup = omega arith
  few_values arm ByPair = one_at_most (option_map (left_value old arm) (row_with old arm.from (take (length (from_key old arm)) key)))

  pub few_places : (unit : UnitForm) → length (places_by old t key unit) ≤ 1
  few_places (rows_unit driver) = one_at_most (option_map Row (position (has_the_key old driver (behind_tag t key)) (table_rows old driver)))
  few_places (values_unit target arm) = of (same_name target.name t.name)
    where
      of : (b : Bool) → length (if b then map Group (values_by old arm key (arm_kind old arm)) else []) ≤ 1
      of true = omega (arith, length-map (values_by old arm key (arm_kind old arm)) Group, few_values arm (arm_kind old arm))
      of false = omega arith

module _ (old : Database) (m : Migrate) (lawful : IsLawful old m) (t : Target) (among : Contains m.targets t) (key : List Value) where
  abbrev db : IsDatabase old
  db = lawful.database

  abbrev p : List Value → Bool
  p row = same_key key (key_of (target_table old t) row)

  abbrev Fine : Arm → Type 0
  Fine arm = ArmTells old db (nat_lt 1 (length t.arms)) (first_arm t.arms) key arm

  its_arms : AllByRecursion Fine t.arms
  its_arms =
      let none = target_unobjected old m lawful t among in
      arms_tell old db t.arms
      (all_both (keeps old db) (λ arm. two_sided old arm && alone_in_groups old arm) (λ arm. keeps old db arm && alone_in_groups old arm) (λ arm k o. and_from _ _ k (and_parts (two_sided old arm) _ o).1) t.arms (arms_keep old db t none) (arms_ok old t none))
      (and_parts _ _ (key_there old t none)).1 key

  names_apart : are_apart same_name (map (λ x. x.name) m.targets) ≡ true
  names_apart = (new_names [] m.targets (names_new old m db lawful.unobjected)).0

  -- the rows that a target has of what comes of each arm
  of_target : (f : Arm → List (List Value)) → named t.name (flat_map (λ q. labelled q.0 (f q.1)) (arms_of m)) ≡ flat_map f t.arms
  of_target f =
      ap (named t.name) (flat_map-flat_map (λ q. labelled q.0 (f q.1)) (λ x. map (λ arm. (x, arm)) x.arms) m.targets
      ∙ blocks_equal (λ x. flat_map (λ q. labelled q.0 (f q.1)) (map (λ arm. (x, arm)) x.arms)) (λ x. labelled x (flat_map f x.arms))
      (λ x. flat_map-map (λ q. labelled q.0 (f q.1)) (λ arm. (x, arm)) x.arms ∙ sym (map_of_blocks (λ row. (x, row)) f x.arms)) m.targets)
      ∙ named_blocks t.name (λ x. labelled x (flat_map f x.arms)) m.targets
      ∙ blocks_equal (λ x. named t.name (labelled x (flat_map f x.arms))) (λ x. cond (same_name x.name t.name) (flat_map f x.arms) []) (λ x. named_labelled t.name x (same_name x.name t.name) refl (flat_map f x.arms)) m.targets
      ∙ one_of_name (λ x. flat_map f x.arms) t m.targets among.0 among.1 among.2 names_apart

  abbrev own : Option UnitForm → Place → Bool
  own o place = list_any p (named t.name (unwrap_or (option_map (λ unit. part_at old m unit place) o) []))

  abbrev UnitFine : UnitForm → Type 0
  UnitFine (rows_unit driver) = Unit {0}
  UnitFine (values_unit target arm) = same_name target.name t.name ≡ true → Fine arm × (is_by_row (arm_kind old arm) ≡ false)

  abbrev ArmOf : Target × Arm → Type 0
  ArmOf q = same_name q.0.name t.name ≡ true → Fine q.1

  units_fine : AllByRecursion UnitFine (units_of old m)
  units_fine =
      let arms : AllByRecursion ArmOf (arms_of m) =
      each_of_blocks ArmOf (λ x. map (λ arm. (x, arm)) x.arms) m.targets
      (each_so (λ x. same_name x.name t.name ≡ true → x ≡ t) (λ x. AllByRecursion ArmOf (map (λ arm. (x, arm)) x.arms)) of_one m.targets (named_is t m.targets among.0 among.1 among.2 names_apart)) in
      each_append UnitFine (map rows_unit (drivers_of old m)) (map (λ q. values_unit q.0 q.1) (filter (λ q. not (is_by_row (arm_kind old q.1))) (arms_of m)))
      (each_of_map UnitFine rows_unit (drivers_of old m) (always (drivers_of old m)))
      (each_of_map UnitFine (λ q. values_unit q.0 q.1) (filter (λ q. not (is_by_row (arm_kind old q.1))) (arms_of m))
      (each_filtered ArmOf (λ q. UnitFine (values_unit q.0 q.1)) (λ q. not (is_by_row (arm_kind old q.1))) (λ q off fine named. (fine named, not-true _ off)) (arms_of m) arms))
    where
      always : (ds : List (List ℕ)) → AllByRecursion (λ d. Unit {0}) ds
      always [] = tt
      always (d ∷ ds) = (tt, always ds)

      of_one : (x : Target) → (same_name x.name t.name ≡ true → x ≡ t) → AllByRecursion ArmOf (map (λ arm. (x, arm)) x.arms)
      of_one x same = each_of_map ArmOf (λ arm. (x, arm)) x.arms (by (same_name x.name t.name) refl)
        where
          never : (arms : List Arm) → same_name x.name t.name ≡ false → AllByRecursion (λ arm. same_name x.name t.name ≡ true → Fine arm) arms
          never [] off = tt
          never (arm ∷ arms) off = (λ on. absurd (false≢true (sym off ∙ on)), never arms off)

          by : (b : Bool) → same_name x.name t.name ≡ b → AllByRecursion (λ arm. same_name x.name t.name ≡ true → Fine arm) x.arms
          by true on = each_so Fine (λ arm. same_name x.name t.name ≡ true → Fine arm) (λ arm fine h. fine) x.arms (subst (λ (y : Target). AllByRecursion Fine y.arms) (sym (same on)) its_arms)
          by false off = never x.arms off

  abbrev k : List Value
  k = behind_tag t key

  abbrev has_there : List ℕ → ℕ → Bool
  has_there d at = list_any (has_the_key old d k) (slice_range (table_rows old d) at (at + 1))

  arm_driven : (arm : Arm) → Fine arm → (d : List ℕ) (at : ℕ) → list_any p (rows_driven old arm (arm_kind old arm) d at) ≡ true → has_there d at ≡ true
  arm_driven arm fine d at some = of (arm_kind old arm) refl (ap (list_any p) (sym (as_driven old arm (arm_kind old arm) d at)) ∙ some) fine.0
    where
      of_from : (b : Bool) → same_name arm.from d ≡ b → Tells old db arm k p ByFrom → list_any p (if b then rows_by old arm ByFrom (slice_range (table_rows old d) at (at + 1)) (rows_of_join old arm.join) else []) ≡ true → has_there d at ≡ true
      of_from true e tells h =
          let same = name-equal arm.from d e in
          subst (λ n. has_there n at ≡ true) same (from_told old db arm k p tells at (rows_of_join old arm.join) (subst (λ n. list_any p (rows_by old arm ByFrom (slice_range (table_rows old n) at (at + 1)) (rows_of_join old arm.join)) ≡ true) (sym same) h))
      of_from false e tells h = absurd (false≢true h)

      of_join : (j : Join) → arm.join ≡ Some j → (b : Bool) → list_any (same_name d) (j.table ∷ []) ≡ b → Tells old db arm k p ByJoin → list_any p (if b then rows_by old arm ByJoin (table_rows old arm.from) (slice_range (table_rows old d) at (at + 1)) else []) ≡ true → has_there d at ≡ true
      of_join j joined true e tells h =
          let same = name-equal d j.table (alone_true (same_name d j.table) e) in
          subst (λ n. has_there n at ≡ true) (sym same) (join_told old db arm k p j joined fine.1 tells (slice_range (table_rows old j.table) at (at + 1)) (subst (λ n. list_any p (rows_by old arm ByJoin (table_rows old arm.from) (slice_range (table_rows old n) at (at + 1))) ≡ true) same h))
      of_join j joined false e tells h = absurd (false≢true h)

      of : (kind : ArmKind) → arm_kind old arm ≡ kind → list_any p (driven old arm (arm_kind old arm) kind d at) ≡ true → Tells old db arm k p (arm_kind old arm) → has_there d at ≡ true
      of ByFrom e h tells =
          of_from (same_name arm.from d) refl (subst (Tells old db arm k p) e tells) (ap (λ c. list_any p (driven old arm c ByFrom d at)) (sym e) ∙ h)
      of ByJoin e h tells =
          let (j, joined) = if_there arm.join (joins_by_join _ (is_some arm.join) _ _ e) in
          let names : names_of_join arm ≡ j.table ∷ [] = ap (λ (o : Option Join). unwrap_or (option_map (λ j. j.table ∷ []) o) []) joined in
          of_join j joined (list_any (same_name d) (j.table ∷ [])) refl (subst (Tells old db arm k p) e tells)
          (ap (λ ns. list_any p (if list_any (same_name d) ns then rows_by old arm ByJoin (table_rows old arm.from) (slice_range (table_rows old d) at (at + 1)) else [])) (sym names)
          ∙ ap (λ c. list_any p (driven old arm c ByJoin d at)) (sym e) ∙ h)
      of ByPair e h tells = absurd (false≢true h)
      of ByGroup e h tells = absurd (false≢true h)

  -- a row unit's part of a row has the key where the row has it
  unit_driven : (d : List ℕ) (at : ℕ) → own (Some (rows_unit d)) (Row at) ≡ true → position (has_the_key old d k) (table_rows old d) ≡ Some at
  unit_driven d at owned =
      let rows : Arm → List (List Value) = λ arm. rows_driven old arm (arm_kind old arm) d at in
      let some = ap (list_any p) (sym (of_target rows)) ∙ owned in
      let there = any_always (has_there d at) t.arms (any_of_each p (λ arm. has_there d at) Fine rows (λ arm fine h. arm_driven arm fine d at h) t.arms its_arms some) in
      position_at (key_in old db d) k (table_rows old d) at (keys_apart old db d) there

  abbrev anchors_have : Arm → List Value → Bool
  anchors_have arm v = has same_key (anchor_values old arm (arm_kind old arm)) v

  -- a value unit's part has the key where the look-up gives the value, which is an anchor's
  arm_valued : (arm : Arm) → Fine arm → is_by_row (arm_kind old arm) ≡ false → (v : List Value) → list_any p (arm_rows old arm (from_with old arm (arm_kind old arm) v) (join_with old arm v)) ≡ true
      → (has same_key (values_by old arm key (arm_kind old arm)) v ≡ true) × (anchors_have arm v ≡ true)
  arm_valued arm fine off v some = of (arm_kind old arm) refl some
    where
      all_key : k ≡ key
      all_key = fine.3 off

      of : (kind : ArmKind) → arm_kind old arm ≡ kind → list_any p (rows_by old arm (arm_kind old arm) (from_with old arm kind v) (join_with old arm v)) ≡ true
          → (has same_key (values_by old arm key kind) v ≡ true) × (has same_key (anchor_values old arm kind) v ≡ true)
      of ByFrom e h = absurd (false≢true (sym off ∙ ap is_by_row e))
      of ByJoin e h = absurd (false≢true (sym off ∙ ap is_by_row e))
      of ByGroup e h =
          let alone : not (is_some arm.join) ≡ true = ap (λ c. if is_by_group c then not (is_some arm.join) else true) (sym e) ∙ fine.2 in
          let both = group_told old db arm k p (subst (Tells old db arm k p) e fine.0) (if_absent arm.join alone) v (ap (λ c. list_any p (rows_by old arm c (from_with old arm ByGroup v) (join_with old arm v))) (sym e) ∙ h) in
          (or_left _ _ (key-symmetric v key ∙ ap (λ c. same_key c v) (sym all_key) ∙ both.0), both.1)
      of ByPair e h =
          let (j, joined) = if_there arm.join (joins_by_pair _ (is_some arm.join) _ _ e) in
          let some = pair_told old db arm k p j joined fine.1 (subst (Tells old db arm k p) e fine.0) v (ap (λ c. list_any p (rows_by old arm c (from_with old arm ByPair v) (join_with old arm v))) (sym e) ∙ h) in
          let front : List Value → List Value = λ c. take (length (from_key old arm)) c in
          let (r, found, same) = found_apart same_key key-equal key-itself (key_in old db arm.from) (front k) (λ r. same_key v (left_value old arm r)) (table_rows old arm.from) (keys_apart old db arm.from) some in
          let found' : find (has_the_key old arm.from (front key)) (table_rows old arm.from) ≡ Some r = ap (λ c. find (has_the_key old arm.from (front c)) (table_rows old arm.from)) (sym all_key) ∙ found in
          let its : values_by old arm key ByPair ≡ left_value old arm r ∷ [] = ap (λ o. option_to_list (option_map (left_value old arm) o)) found' in
          let lefts : has same_key (map (left_value old arm) (table_rows old arm.from)) v ≡ true =
          list_any-map (same_key v) (left_value old arm) (table_rows old arm.from) ∙ any_less (λ r. same_key v (left_value old arm r) && same_key (front k) (key_in old db arm.from r)) (λ r. same_key v (left_value old arm r)) (λ r h. (and_parts _ _ h).0) (table_rows old arm.from) some in (
            ap (λ vs. has same_key vs v) its ∙ or_left _ _ same,
            list_any-append (same_key v) (map (left_value old arm) (table_rows old arm.from)) (map (right_value old arm) (rows_of_join old arm.join)) ∙ or_left _ _ lefts,
          )

  unit_valued : (target : Target) (arm : Arm) → UnitFine (values_unit target arm) → (v : List Value) → own (Some (values_unit target arm)) (Group v) ≡ true
      → (same_name target.name t.name ≡ true) × (has same_key (values_by old arm key (arm_kind old arm)) v ≡ true) × (anchors_have arm v ≡ true)
  unit_valued target arm fine v owned = of (same_name target.name t.name) refl
    where
      rows : List (List Value)
      rows = arm_rows old arm (from_with old arm (arm_kind old arm) v) (join_with old arm v)

      of : (b : Bool) → same_name target.name t.name ≡ b → (same_name target.name t.name ≡ true) × (has same_key (values_by old arm key (arm_kind old arm)) v ≡ true) × (anchors_have arm v ≡ true)
      of true e =
          let both = fine e in
          let valued = arm_valued arm both.0 both.1 v (ap (list_any p) (sym (named_labelled t.name target true e (arm_rows old arm (from_with old arm (arm_kind old arm) v) (join_with old arm v)))) ∙ owned) in
          (e, valued.0, valued.1)
      of false e = absurd (false≢true (ap (list_any p) (sym (named_labelled t.name target false e (arm_rows old arm (from_with old arm (arm_kind old arm) v) (join_with old arm v)))) ∙ owned))

  -- the place that has a row with the key is the one that is looked up
  to_candidates : (u : UnitForm) (place : Place) → UnitFine u → own (Some u) place ≡ true → has same_place (places_in old u) place ≡ true → has same_place (places_by old t key u) place ≡ true
  to_candidates (rows_unit d) (Row at) fine owned there =
      ap (λ o. has same_place (option_to_list (option_map Row o)) (Row at)) (unit_driven d at owned) ∙ or_left _ _ (eq-eqb at at refl)
  to_candidates (rows_unit d) (Group v) fine owned there = absurd (false≢true (sym (no_group v (range_with_len 0 (length (table_rows old d)))) ∙ there))
  to_candidates (values_unit target arm) (Row at) fine owned there = absurd (false≢true owned)
  to_candidates (values_unit target arm) (Group v) fine owned there =
      let both = unit_valued target arm fine v owned in
      ap (λ b. has same_place (if b then map Group (values_by old arm key (arm_kind old arm)) else []) (Group v)) both.0 ∙ has_value v (values_by old arm key (arm_kind old arm)) ∙ both.1

  from_candidates : (u : UnitForm) (place : Place) → UnitFine u → own (Some u) place ≡ true → has same_place (places_by old t key u) place ≡ true → has same_place (places_in old u) place ≡ true
  from_candidates (rows_unit d) (Row at) fine owned there =
      let less = (position-Some (has_the_key old d k) (table_rows old d) at [] (unit_driven d at owned)).0 in
      in_range 0 (length (table_rows old d)) at (omega arith) (omega (arith, less))
  from_candidates (rows_unit d) (Group v) fine owned there = absurd (false≢true owned)
  from_candidates (values_unit target arm) (Row at) fine owned there = absurd (false≢true owned)
  from_candidates (values_unit target arm) (Group v) fine owned there =
      let both = unit_valued target arm fine v owned in
      has_value v (in_order key_cmp (λ v. v) (distinct same_key (anchor_values old arm (arm_kind old arm))))
      ∙ values_in_order-has key_cmp_total key_cmp-IsAntisymmetric (anchor_values old arm (arm_kind old arm)) v ∙ both.2

  pub looked_up : owner_of old m t key ≡ find (owns old m t key) (candidates old m t key)
  looked_up =
      same_find (owns old m t key) (granules_of old m) (candidates old m t key) (one_owner old m lawful t among key)
      (λ g owned there. carried (units_of old m) own UnitFine (places_in old) (places_by old t key) to_candidates units_fine g owned there)
      (λ g owned there. carried (units_of old m) own UnitFine (places_by old t key) (places_in old) from_candidates units_fine g owned there)

in_list : {X : Type 0} (test : X → Bool) (xs : List X) (x : X) (i : ℕ) → i < length xs → slice_index_or xs i x ≡ x → list_all test xs ≡ true → test x ≡ true
in_list test [] x i less e all = absurd (omega arith)
in_list test (y ∷ ys) x zero less e all = ap test (sym e) ∙ (and_parts _ _ all).0
in_list test (y ∷ ys) x (suc i) less e all = in_list test ys x i (omega arith) e (and_parts _ _ all).1

pub its_arm_two_sided : (old : Database) (m : Migrate) → IsLawful old m → (t : Target) → Contains m.targets t → (arm : Arm) → Contains t.arms arm → two_sided old arm ≡ true
its_arm_two_sided old m lawful t among arm (i, less, at) =
    (and_parts (two_sided old arm) (alone_in_groups old arm) (in_list (λ a. two_sided old a && alone_in_groups old a) t.arms arm i less at (arms_ok old t (target_unobjected old m lawful t among)))).0
