-- The parts of a lawful migration: no other table has rows of them, its granules differ, and the parts of a target have
-- different keys and are admitted.
use Rattle.std.proofs.Common.{◌≡◌, ℕ, zero, suc, ◌+◌, ◌<◌, Bool, true, false, not, ◌&&◌, ◌||◌, ◌==◌, cond, if◌then◌else◌, List, [], ◌∷◌, ◌++◌, map, filter, flat_map, fold, length, option_map, unwrap_or, slice_get, refl, sym, ap, ap₂, ◌∙◌, arith}
use Rattle.std.specs.List.{list_any, list_all, AllByRecursion, Contains, range_with_len, enumerate_from}
use Rattle.std.proofs.lemmas.Bool.{and_parts, and_from, and_left, or_parts, or_from, not_from_false, not-true, ne_eqb, eq-eqb}
use Rattle.std.proofs.lemmas.List.Folds.{list_any-append, list_all-append}
use Rattle.bf_base.specs.declared.granule.Granule.{Granule}
use Rattle.bf_base.specs.declared.granule.Place.{Place}
use Rattle.bf_base.specs.declared.granule.Place.TheVariants.{Row, Group}
use Rattle.bf_base.specs.declared.value.Value.{Value}
use Rattle.bf_base.specs.Distinct.{distinct, with_new}
use Rattle.bf_base.specs.Lists.{same_name, same_key, has, in_order}
use Rattle.bf_base.specs.Tables.{key_of}
use Rattle.bf_base.specs.Values.{key_cmp, key_cmp_total}
use Rattle.bf_base.proofs.Apart.{are_apart, apart-append, are_apart-same_items, with_placed-items}
use Rattle.bf_base.proofs.Items.{list_all-same_items}
use Rattle.bf_base.proofs.Order.{symmetric}
use Rattle.bf_base.proofs.Parts.{all_not_from_none, has_either_way, apart-flat_map, filter_none}
use Rattle.bf_tree.specs.declared.migration.Arm.{Arm}
use Rattle.bf_tree.specs.declared.migration.Migrate.{Migrate}
use Rattle.bf_tree.specs.declared.migration.Target.{Target}
use Rattle.bf_sql.specs.Database.{Database, Stored, table_rows, is_admitted, is_within}
use Rattle.bf_sql.specs.migrations.Granules.{UnitForm, rows_unit, values_unit, arms_of, units_of, anchor_values, places_in, granule, granules_of, part_at, part_of, part_in, rows_driven, same_place, same_granule}
use Rattle.bf_sql.specs.migrations.Images.{image_of}
use Rattle.bf_sql.specs.migrations.MigrationObjections.{drivers_of, is_by_row}
use Rattle.bf_sql.specs.migrations.Targets.{arm_kind, target_table}
use Rattle.bf_image.specs.Lawful.{IsLawful}
use Rattle.bf_image.proofs.admitting.Admitted.{image_admitted}
use Rattle.bf_image.proofs.admitting.Few.{goes_over_few, few_sources}
use Rattle.bf_image.proofs.admitting.Flip.{key_within}
use Rattle.bf_image.proofs.cutting.Made.{same_rows}
use Rattle.bf_image.proofs.finding.Owned.{part_keys_apart, same_table, target_unobjected}
use Rattle.bf_image.proofs.items.Lists.{all_of_contained}
use Rattle.bf_live.proofs.locking.Elements.{here, behind}

-- NO OTHER TABLE. A test of targets that none passes
module _ (test : Target → Bool) where
  none_of_map : {X Y : Type 0} (f : X → Target × Y) (xs : List X) → ((x : X) → test (f x).0 ≡ false)
      → list_any (λ p. test p.0) (map f xs) ≡ false
  none_of_map f [] none = refl
  none_of_map f (x ∷ xs) none = or_from _ _ (none x) (none_of_map f xs none)

  none_of_arms : (ts : List Target) → list_any test ts ≡ false
      → list_any (λ (p : Target × Arm). test p.0) (flat_map (λ t. map (λ arm. (t, arm)) t.arms) ts) ≡ false
  none_of_arms [] none = refl
  none_of_arms (t ∷ ts) none =
      let parts = or_parts _ _ none in
      list_any-append (λ (p : Target × Arm). test p.0) (map (λ arm. (t, arm)) t.arms) (flat_map (λ t. map (λ arm. (t, arm)) t.arms) ts)
      ∙ or_from _ _ (none_of_map (λ (arm : Arm). (t, arm)) t.arms (λ arm. parts.0)) (none_of_arms ts parts.1)

  none_of_rows : (f : Target × Arm → List (List Value)) (ps : List (Target × Arm)) → list_any (λ p. test p.0) ps ≡ false
      → list_any (λ (q : Target × List Value). test q.0) (flat_map (λ (p : Target × Arm). map (λ (row : List Value). (p.0, row)) (f p)) ps) ≡ false
  none_of_rows f [] none = refl
  none_of_rows f (p ∷ ps) none =
      let parts = or_parts _ _ none in
      list_any-append (λ (q : Target × List Value). test q.0) (map (λ (row : List Value). (p.0, row)) (f p)) (flat_map (λ (p : Target × Arm). map (λ (row : List Value). (p.0, row)) (f p)) ps)
      ∙ or_from _ _ (none_of_map (λ (row : List Value). (p.0, row)) (f p) (λ row. parts.0)) (none_of_rows f ps parts.1)

  -- a unit of none of those targets
  abbrev is_of_none : UnitForm → Bool
  is_of_none (rows_unit driver) = true
  is_of_none (values_unit target arm) = not (test target)

  rows_of_none : (ds : List (List ℕ)) → list_all is_of_none (map rows_unit ds) ≡ true
  rows_of_none [] = refl
  rows_of_none (d ∷ ds) = rows_of_none ds

  values_of_none : (p : Target × Arm → Bool) (ps : List (Target × Arm)) → list_any (λ p. test p.0) ps ≡ false
      → list_all is_of_none (map (λ p. values_unit p.0 p.1) (filter p ps)) ≡ true
  values_of_none p [] none = refl
  values_of_none p (q ∷ ps) none =
      let parts = or_parts _ _ none in
      let rest = values_of_none p ps parts.1 in
      elim (p q) as (λ b. list_all is_of_none (map (λ p. values_unit p.0 p.1) (cond b (q ∷ filter p ps) (filter p ps))) ≡ true) [
        | true ↦ and_from _ _ (not_from_false _ parts.0) rest
        | false ↦ rest
      ]

  module _ (old : Database) (m : Migrate) (none : list_any test m.targets ≡ false) where
    arms_none : list_any (λ p. test p.0) (arms_of m) ≡ false
    arms_none = none_of_arms m.targets none

    units_none : list_all is_of_none (units_of old m) ≡ true
    units_none =
        list_all-append is_of_none (map rows_unit (drivers_of old m)) (map (λ p. values_unit p.0 p.1) (filter (λ p. not (is_by_row (arm_kind old p.1))) (arms_of m)))
        ∙ and_from _ _ (rows_of_none (drivers_of old m)) (values_of_none (λ p. not (is_by_row (arm_kind old p.1))) (arms_of m) arms_none)

    part_of_unit : (u : UnitForm) (place : Place) → is_of_none u ≡ true → list_any (λ q. test q.0) (part_at old m u place) ≡ false
    part_of_unit (rows_unit driver) (Row at) of = none_of_rows (λ p. rows_driven old p.1 (arm_kind old p.1) driver at) (arms_of m) arms_none
    part_of_unit (rows_unit driver) (Group value) of = refl
    part_of_unit (values_unit target arm) (Row at) of = refl
    part_of_unit (values_unit target arm) (Group value) of = none_of_map (λ (row : List Value). (target, row)) _ (λ row. not-true _ of)

    part_none : (place : Place) (us : List UnitForm) (i : ℕ) → list_all is_of_none us ≡ true
        → list_any (λ q. test q.0) (unwrap_or (option_map (λ u. part_at old m u place) (slice_get us i)) []) ≡ false
    part_none place [] i all = refl
    part_none place (u ∷ us) zero all = part_of_unit u place (and_parts _ _ all).0
    part_none place (u ∷ us) (suc i) all = part_none place us i (and_parts _ _ all).1

-- a table that is no target has no row of a granule
pub elsewhere : (old : Database) (m : Migrate) (name : List ℕ) → list_any (λ t. same_name t.name name) m.targets ≡ false
    → (g : Granule) → part_in old m name g ≡ []
elsewhere old m name none g =
    let test = λ (t : Target). same_name t.name name in
    ap (map (λ p. p.1)) (filter_none (λ p. same_name p.0.name name) (part_of old m g) (part_none test old m none g.place (units_of old m) g.unit (units_none test old m none)))

-- GRANULES DIFFER
above : (p a n : ℕ) → p < a → has same_place (map Row (range_with_len a n)) (Row p) ≡ false
above p a zero less = refl
above p a (suc n) less = or_from _ _ (ne_eqb p a (omega arith)) (above p (a + 1) n (omega arith))

rows_apart : (a n : ℕ) → are_apart same_place (map Row (range_with_len a n)) ≡ true
rows_apart a zero = refl
rows_apart a (suc n) = and_from _ _ (not_from_false _ (above a (a + 1) n (omega arith))) (rows_apart (a + 1) n)

pub has_group : (ks : List (List Value)) (k : List Value) → has same_place (map Group ks) (Group k) ≡ has same_key ks k
has_group [] k = refl
has_group (l ∷ ks) k = ap (λ b. same_key k l || b) (has_group ks k)

groups_apart : (ks : List (List Value)) → are_apart same_key ks ≡ true → are_apart same_place (map Group ks) ≡ true
groups_apart [] apart = refl
groups_apart (k ∷ ks) apart = and_from _ _ (ap not (has_group ks k) ∙ (and_parts _ _ apart).0) (groups_apart ks (and_parts _ _ apart).1)

new_apart : (seen : List (List Value)) (k : List Value) → are_apart same_key seen ≡ true
    → are_apart same_key (with_new same_key seen k) ≡ true
new_apart seen k apart = elim (has same_key seen k) as (λ b. has same_key seen k ≡ b → are_apart same_key (if b then seen else seen ++ k ∷ []) ≡ true) [
  | true ↦ λ e. apart
  | false ↦ λ e.
      let none = has_either_way same_key (symmetric key_cmp_total) (k ∷ []) seen ∙ or_from _ _ e refl in
      apart-append same_key seen (k ∷ []) apart refl (all_not_from_none _ seen none)
] refl

fold_apart : (seen ks : List (List Value)) → are_apart same_key seen ≡ true → are_apart same_key (fold (with_new same_key) seen ks) ≡ true
fold_apart seen [] apart = apart
fold_apart seen (k ∷ ks) apart = fold_apart (with_new same_key seen k) ks (new_apart seen k apart)

map-id : (ks : List (List Value)) → map (λ v. v) ks ≡ ks
map-id [] = refl
map-id (k ∷ ks) = ap (λ ls. k ∷ ls) (map-id ks)

in_order_apart : (ks : List (List Value)) → are_apart same_key ks ≡ true → are_apart same_key (in_order key_cmp (λ v. v) ks) ≡ true
in_order_apart ks apart = sym (are_apart-same_items key_cmp_total (with_placed-items key_cmp_total (λ v. v) [] ks)) ∙ apart

places_apart : (old : Database) (u : UnitForm) → are_apart same_place (places_in old u) ≡ true
places_apart old (rows_unit driver) = rows_apart 0 (length (table_rows old driver))
places_apart old (values_unit target arm) = groups_apart (in_order key_cmp (λ v. v) (distinct same_key (anchor_values old arm (arm_kind old arm)))) (in_order_apart (distinct same_key (anchor_values old arm (arm_kind old arm))) (fold_apart [] (anchor_values old arm (arm_kind old arm)) refl))

pub in_unit : (n : ℕ) (ps : List Place) (p : Place) → has same_granule (map (granule n) ps) (granule n p) ≡ has same_place ps p
in_unit n [] p = refl
in_unit n (q ∷ ps) p = ap₂ (λ b c. (b && same_place p q) || c) (eq-eqb n n refl) (in_unit n ps p)

block_apart : (n : ℕ) (ps : List Place) → are_apart same_place ps ≡ true → are_apart same_granule (map (granule n) ps) ≡ true
block_apart n [] apart = refl
block_apart n (p ∷ ps) apart = and_from _ _ (ap not (in_unit n ps p) ∙ (and_parts _ _ apart).0) (block_apart n ps (and_parts _ _ apart).1)

pub not_in_unit : (a b : ℕ) (ps : List Place) (p : Place) → (a == b) ≡ false → has same_granule (map (granule b) ps) (granule a p) ≡ false
not_in_unit a b [] p other = refl
not_in_unit a b (q ∷ ps) p other = or_from _ _ (and_left (a == b) (same_place p q) other) (not_in_unit a b ps p other)

blocks_across : (a b : ℕ) (ps qs : List Place) → (a == b) ≡ false
    → list_all (λ g. not (has same_granule (map (granule b) qs) g)) (map (granule a) ps) ≡ true
blocks_across a b [] qs other = refl
blocks_across a b (p ∷ ps) qs other = and_from _ _ (not_from_false _ (not_in_unit a b qs p other)) (blocks_across a b ps qs other)

units_apart : (us : List UnitForm) (n : ℕ) → are_apart (λ u v. u.0 == v.0) (enumerate_from n us) ≡ true
units_apart [] n = refl
units_apart (u ∷ us) n = and_from _ _ (not_from_false _ (later us n (n + 1) (omega arith))) (units_apart us (n + 1))
  where
    later : (vs : List UnitForm) (a k : ℕ) → a < k → has (λ u v. u.0 == v.0) (enumerate_from k vs) (a, u) ≡ false
    later [] a k less = refl
    later (v ∷ vs) a k less = or_from _ _ (ne_eqb a k (omega arith)) (later vs a (k + 1) (omega arith))

pub granules_apart : (old : Database) (m : Migrate) → are_apart same_granule (granules_of old m) ≡ true
granules_apart old m =
    apart-flat_map (λ (u v : ℕ × UnitForm). u.0 == v.0) same_granule (λ u. map (granule u.0) (places_in old u.1))
    (λ u. block_apart u.0 (places_in old u.1) (places_apart old u.1))
    (λ u v other. blocks_across u.0 v.0 (places_in old u.1) (places_in old v.1) other)
    (enumerate_from 0 (units_of old m)) (units_apart (units_of old m) 0)

-- all rows that the table of a name has of all granules, one part behind the other
abbrev pub parts_of : Database → Migrate → List ℕ → List (List Value)
parts_of old m name = flat_map (part_in old m name) (granules_of old m)

-- PARTS. What is known of the parts of a target of a lawful migration
pub record HasLawfulParts (old : Database) (m : Migrate) (t : Target) : Type 0 where
  pub together : in_order key_cmp (key_of (target_table old t)) (parts_of old m t.name) ≡ in_order key_cmp (key_of (target_table old t)) (image_of old t)
  pub apart : are_apart same_key (map (key_of (target_table old t)) (parts_of old m t.name)) ≡ true
  pub admitted : list_all (is_admitted (target_table old t)) (parts_of old m t.name) ≡ true
  pub within : is_within (target_table old t) (target_table old t).key ≡ true

of_target : (old : Database) (m : Migrate) → IsLawful old m → (t : Target) → Contains m.targets t → HasLawfulParts old m t
of_target old m lawful t among =
    let none = target_unobjected old m lawful t among in
    let few = all_of_contained (λ t. list_all (goes_over_few old) t.arms) m.targets t (few_sources old m lawful.few) among in
    record {
      together = ap (λ (s : Stored). s.rows) (same_table old m lawful t among);
      apart = part_keys_apart old m lawful t among;
      admitted = list_all-same_items (is_admitted (target_table old t)) (same_rows old m lawful t among) ∙ image_admitted old lawful.database t none few;
      within = key_within old t none;
    }

-- what is true of each that a list contains is true of each of it
each_contained : {X : Type 0} (P : X → Type 0) (xs : List X) → ((x : X) → Contains xs x → P x) → AllByRecursion P xs
each_contained P [] one = tt
each_contained P (x ∷ xs) one = (one x (here x xs), each_contained P xs (λ y among. one y (behind x y xs among)))

pub parts_of_lawful : (old : Database) (m : Migrate) → IsLawful old m → AllByRecursion (HasLawfulParts old m) m.targets
parts_of_lawful old m lawful = each_contained (HasLawfulParts old m) m.targets (of_target old m lawful)
