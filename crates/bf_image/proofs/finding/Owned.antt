-- Each key has one owner at most, and a sweep meets each granule.
use Rattle.std.proofs.Common.{◌≡◌, ℕ, Bool, true, false, not, ◌&&◌, ◌||◌, ◌==◌, cond, List, [], ◌∷◌, map, filter, flat_map, find, Some, refl, sym, ap, ap₂, ◌∙◌, inl, inr}
use Rattle.std.specs.List.{list_any, list_all, Contains, enumerate_from, AllByRecursion}
use Rattle.std.specs.Option.{option_to_list}
use Rattle.std.proofs.lemmas.Bool.{and_parts, or_from, not-true, cases_Bool, false≢true}
use Rattle.std.proofs.lemmas.List.Elements.{All-from_recursion, All-contains}
use Rattle.std.proofs.lemmas.List.Folds.{list_any-append}
use Rattle.bf_base.specs.declared.value.Value.{Value}
use Rattle.bf_base.specs.declared.granule.Place.{Place}
use Rattle.bf_base.specs.declared.granule.Place.TheVariants.{Row, Group}
use Rattle.bf_base.specs.declared.granule.Granule.{Granule}
use Rattle.bf_base.specs.Values.{key_cmp, key_cmp_total, key_cmp-IsAntisymmetric}
use Rattle.bf_base.specs.Lists.{same_key, has, rises, in_order}
use Rattle.bf_base.specs.Tables.{key_of}
use Rattle.bf_base.proofs.Apart.{are_apart, apart_across, apart_right, are_apart-same_items, with_placed-same_items, rises-placed_apart}
use Rattle.bf_base.proofs.Items.{mapped}
use Rattle.bf_base.proofs.Order.{list_any-map}
use Rattle.bf_base.proofs.Parts.{filter_none}
use Rattle.bf_base.specs.Distinct.{distinct}
use Rattle.bf_tree.specs.declared.migration.Target.{Target}
use Rattle.bf_tree.specs.declared.migration.Migrate.{Migrate}
use Rattle.bf_sql.specs.Database.{Database, Stored, stored_in_order}
use Rattle.bf_sql.specs.migrations.MigrationObjections.{target_objections}
use Rattle.bf_sql.specs.migrations.Targets.{target_table, arm_kind}
use Rattle.bf_sql.specs.migrations.Images.{image_of}
use Rattle.bf_sql.specs.migrations.Granules.{UnitForm, rows_unit, values_unit, units_of, anchors_of, anchor_values, places_in, granule, granules_of, part_in, owner_of, same_place, same_granule}
use Rattle.bf_image.specs.Laws.{rows_of_parts, owns, swept}
use Rattle.bf_image.specs.Lawful.{IsLawful}
use Rattle.bf_image.proofs.items.Lists.{none_left, none_right}
use Rattle.bf_index.proofs.Bags.{map_of_blocks}
use Rattle.bf_image.proofs.making.Arms.{key-equal}
use Rattle.bf_index.proofs.Values.{values_in_order-has}
use Rattle.bf_image.proofs.making.Unobjected.{targets_unobjected}
use Rattle.bf_image.proofs.cutting.Made.{same_rows}
use Rattle.bf_image.proofs.making.Unions.{image_apart}

-- what comes to nothing for all comes to nothing for each
nothing_at_each : {X Y : Type 0} (f : X → List Y) (xs : List X) → flat_map f xs ≡ [] → AllByRecursion (λ x. f x ≡ []) xs
nothing_at_each f [] e = tt
nothing_at_each f (x ∷ xs) e = (none_left (f x) (flat_map f xs) e, nothing_at_each f xs (none_right (f x) (flat_map f xs) e))

module _ {K : Type 0} (same : K → K → Bool) (equal : (a b : K) → same a b ≡ true → a ≡ b) where
  -- what the one of two lists has that are apart, the other has not
  not_across : (k : K) (ks ls : List K) → has same ks k ≡ true → list_all (λ a. not (has same ls a)) ks ≡ true → has same ls k ≡ false
  not_across k [] ls there across = absurd (false≢true there)
  not_across k (a ∷ ks) ls there across = elim (cases_Bool (same k a)) [
    | inl is ↦ ap (has same ls) (equal k a is) ∙ not-true _ (and_parts _ _ across).0
    | inr other ↦
        let there' : has same ks k ≡ true = rw other at there in
        not_across k ks ls there' (and_parts _ _ across).1
  ]

  module _ {X : Type 0} (f : X → List K) (k : K) where
    has-flat_map : (xs : List X) → has same (flat_map f xs) k ≡ list_any (λ x. has same (f x) k) xs
    has-flat_map [] = refl
    has-flat_map (x ∷ xs) = list_any-append (same k) (f x) (flat_map f xs) ∙ ap (λ b. has same (f x) k || b) (has-flat_map xs)

    -- of blocks that are apart one at most has a key
    filter-find : (xs : List X) → are_apart same (flat_map f xs) ≡ true → filter (λ x. has same (f x) k) xs ≡ option_to_list (find (λ x. has same (f x) k) xs)
    filter-find [] apart = refl
    filter-find (x ∷ xs) apart = elim (cases_Bool (has same (f x) k)) [
      | inl there ↦
          let none = sym (has-flat_map xs) ∙ not_across k (f x) (flat_map f xs) there (apart_across same (f x) (flat_map f xs) apart) in
          rw (there, filter_none (λ x. has same (f x) k) xs none) refl
      | inr absent ↦ rw absent (filter-find xs (apart_right same (f x) (flat_map f xs) apart))
    ]

filter_alike : {X : Type 0} (p q : X → Bool) → ((x : X) → p x ≡ q x) → (xs : List X) → filter p xs ≡ filter q xs
filter_alike p q one [] = refl
filter_alike p q one (x ∷ xs) = ap₂ (λ b zs. cond b (x ∷ zs) zs) (one x) (filter_alike p q one xs)

pub find_alike : {X : Type 0} (p q : X → Bool) → ((x : X) → p x ≡ q x) → (xs : List X) → find p xs ≡ find q xs
find_alike p q one [] = refl
find_alike p q one (x ∷ xs) = ap₂ (λ b o. cond b (Some x) o) (one x) (find_alike p q one xs)

module _ (old : Database) (m : Migrate) (lawful : IsLawful old m) (t : Target) (among : Contains m.targets t) where
  abbrev key : List Value → List Value
  key = key_of (target_table old t)

  pub target_unobjected : target_objections old t ≡ []
  target_unobjected = All-contains (λ t. target_objections old t ≡ []) m.targets t (All-from_recursion _ m.targets (nothing_at_each (target_objections old) m.targets (targets_unobjected old m lawful.database lawful.unobjected))) among

  -- no two rows of the image have the same key
  pub image_keys_apart : are_apart same_key (map key (image_of old t)) ≡ true
  image_keys_apart = image_apart old lawful.database t target_unobjected

  pub part_keys_apart : are_apart same_key (map key (rows_of_parts old m t)) ≡ true
  part_keys_apart = are_apart-same_items key_cmp_total (mapped key (same_rows old m lawful t among)) ∙ image_keys_apart

  pub image_rises : rises key_cmp (map key (in_order key_cmp key (image_of old t))) ≡ true
  image_rises = rises-placed_apart key_cmp_total key [] (image_of old t) refl image_keys_apart

  -- the parts as a table are the image as a table
  pub same_table : stored_in_order (target_table old t) (rows_of_parts old m t) ≡ stored_in_order (target_table old t) (image_of old t)
  same_table =
      let table = target_table old t in
      let e = with_placed-same_items key_cmp_total key (same_rows old m lawful t among) [] part_keys_apart in
      ap (λ rows. let s : Stored = record { table = table; rows = rows } in s) e

  pub one_owner : (k : List Value) → filter (owns old m t k) (granules_of old m) ≡ option_to_list (owner_of old m t k)
  one_owner k =
      let keys_in : Granule → List (List Value) = λ g. map key (part_in old m t.name g) in
      let apart : are_apart same_key (flat_map keys_in (granules_of old m)) ≡ true = ap (are_apart same_key) (sym (map_of_blocks key (part_in old m t.name) (granules_of old m))) ∙ part_keys_apart in
      let alike : (g : Granule) → owns old m t k g ≡ has same_key (keys_in g) k = λ g. sym (list_any-map (same_key k) key (part_in old m t.name g)) in
      filter_alike (owns old m t k) (λ g. has same_key (keys_in g) k) alike (granules_of old m)
      ∙ filter-find same_key key-equal keys_in k (granules_of old m) apart
      ∙ ap option_to_list (sym (find_alike (owns old m t k) (λ g. has same_key (keys_in g) k) alike (granules_of old m)))

-- a sweep of all anchors
module _ (unit : ℕ) (g : Granule) where
  no_row : (vs : List (List Value)) (n : ℕ) → list_any (λ v. g.unit == unit && same_place (Row n) (Group v)) vs ≡ false
  no_row [] n = refl
  no_row (v ∷ vs) n = or_from _ _ (never (g.unit == unit)) (no_row vs n)
    where
      never : (b : Bool) → (b && false) ≡ false
      never true = refl
      never false = refl

  in_unit : (place : Place) (vs : List (List Value)) → g.place ≡ place → has same_granule (map (granule unit) (map Group vs)) g ≡ list_any (λ v. g.unit == unit && same_place place (Group v)) vs
  in_unit place [] e = refl
  in_unit place (v ∷ vs) e = ap₂ (λ b c. b || c) (ap (λ p. g.unit == unit && same_place p (Group v)) e) (in_unit place vs e)

  of_values : (b : Bool) (w : List Value) (vs : List (List Value)) → list_any (λ v. b && same_key w v) vs ≡ (b && has same_key vs w)
  of_values true w vs = refl
  of_values false w [] = refl
  of_values false w (v ∷ vs) = of_values false w vs

  same_values_met : (vs ws : List (List Value)) → ((k : List Value) → has same_key vs k ≡ has same_key ws k) → has same_granule (map (granule unit) (map Group vs)) g ≡ has same_granule (map (granule unit) (map Group ws)) g
  same_values_met vs ws agree = of g.place refl
    where
      of : (place : Place) → g.place ≡ place → has same_granule (map (granule unit) (map Group vs)) g ≡ has same_granule (map (granule unit) (map Group ws)) g
      of (Row n) e = in_unit (Row n) vs e ∙ no_row vs n ∙ sym (in_unit (Row n) ws e ∙ no_row ws n)
      of (Group w) e = in_unit (Group w) vs e ∙ of_values (g.unit == unit) w vs ∙ ap (λ b. (g.unit == unit) && b) (agree w) ∙ sym (in_unit (Group w) ws e ∙ of_values (g.unit == unit) w ws)

unit_met : (old : Database) (n : ℕ) (u : UnitForm) (g : Granule) → has same_granule (map (granule n) (anchors_of old u)) g ≡ has same_granule (map (granule n) (places_in old u)) g
unit_met old n (rows_unit driver) g = refl
unit_met old n (values_unit target arm) g =
    let anchors = anchor_values old arm (arm_kind old arm) in
    same_values_met n g anchors (in_order key_cmp (λ v. v) (distinct same_key anchors)) (λ k. sym (values_in_order-has key_cmp_total key_cmp-IsAntisymmetric anchors k))

units_met : (old : Database) (us : List (ℕ × UnitForm)) (g : Granule) → has same_granule (flat_map (λ u. map (granule u.0) (anchors_of old u.1)) us) g ≡ has same_granule (flat_map (λ u. map (granule u.0) (places_in old u.1)) us) g
units_met old [] g = refl
units_met old (u ∷ us) g =
    list_any-append (same_granule g) (map (granule u.0) (anchors_of old u.1)) (flat_map (λ u. map (granule u.0) (anchors_of old u.1)) us)
    ∙ ap₂ (λ b c. b || c) (unit_met old u.0 u.1 g) (units_met old us g)
    ∙ sym (list_any-append (same_granule g) (map (granule u.0) (places_in old u.1)) (flat_map (λ u. map (granule u.0) (places_in old u.1)) us))

pub sweep_meets : (old : Database) (m : Migrate) (g : Granule) → has same_granule (swept old m) g ≡ has same_granule (granules_of old m) g
sweep_meets old m g = units_met old (enumerate_from 0 (units_of old m)) g
