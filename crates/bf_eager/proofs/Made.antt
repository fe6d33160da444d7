-- Each new table has the rows of its image.
use Rattle.std.proofs.Common.{◌≡◌, ℕ, zero, suc, ◌+◌, ◌<◌, Bool, true, false, not, ◌==◌, cond, List, [], ◌∷◌, Some, map, filter, flat_map, length, slice_get, nat_lt, refl, sym, ap, ◌∙◌, arith}
use Rattle.std.specs.List.{Contains, list_all, slice_index_or}
use Rattle.std.proofs.lemmas.Bool.{and_parts, not-true, or_parts}
use Rattle.std.proofs.lemmas.Bool.Decides.{nat_tests}
use Rattle.std.proofs.lemmas.List.Folds.{list_all-map}
use Rattle.std.proofs.lemmas.Option.{same_Some}
use Rattle.bf_base.specs.declared.value.Value.{Value}
use Rattle.bf_base.specs.Lists.{has, same_key, same_name}
use Rattle.bf_base.specs.Tables.{key_of}
use Rattle.bf_base.specs.Values.{key_cmp_total}
use Rattle.bf_base.proofs.Apart.{are_apart, are_apart-same_items, with_placed-same_items}
use Rattle.bf_base.proofs.Items.{SameItems, list_all-same_items, mapped, same_items_if, through}
use Rattle.bf_tree.specs.declared.migration.Arm.{Arm}
use Rattle.bf_tree.specs.declared.migration.Migrate.{Migrate}
use Rattle.bf_tree.specs.declared.migration.Target.{Target}
use Rattle.bf_sql.specs.Database.{Database, Stored, is_admitted, stored_in_order}
use Rattle.bf_sql.specs.migrations.Granules.{arms_of, granules_of, part_of}
use Rattle.bf_sql.specs.migrations.Images.{image_of}
use Rattle.bf_sql.specs.migrations.Targets.{target_table}
use Rattle.bf_image.proofs.admitting.Admitted.{image_admitted}
use Rattle.bf_image.proofs.admitting.Few.{few_sources, goes_over_few}
use Rattle.bf_image.proofs.admitting.Flip.{key_within}
use Rattle.bf_image.proofs.cutting.Made.{same_rows}
use Rattle.bf_image.proofs.cutting.Parts.{all_parts, whole}
use Rattle.bf_image.proofs.cutting.Targets.{named_blocks, new_names}
use Rattle.bf_image.proofs.finding.Owned.{image_keys_apart, target_unobjected}
use Rattle.bf_index.proofs.Bags.{filter_same_items}
use Rattle.bf_image.proofs.items.Lists.{all_of_blocks, all_of_contained, all_of_map, all_so, filter_equal_where}
use Rattle.bf_image.proofs.items.Names.{name-itself, name-symmetric}
use Rattle.bf_image.proofs.making.Unobjected.{arms_fine, names_new}
use Rattle.bf_eager.specs.Flips.{AreMade, IsMade, Made}
use Rattle.bf_eager.specs.Gathering.{Numbered, gathered, named}
use Rattle.bf_image.specs.Migrations.{IsLawfulMigration, old_of, target_at}
use Rattle.bf_eager.specs.Sorting.{Sorted, rows_made}
use Rattle.bf_image.specs.declared.migration.Migration.{Migration}
use Rattle.bf_eager.proofs.Gathered.{gathered_alike}
use Rattle.bf_eager.proofs.Numbering.{rows_numbered, sorted_from, within_if}
use Rattle.bf_eager.proofs.Placing.{all_within, different-apart}

abbrev no_target : Target
no_target = record { name = []; arms = [] }

abbrev has_arms : Target → Bool
has_arms t = nat_lt 0 (length t.arms)

-- ---- names and numbers of targets
other_at : (ts : List Target) (n : ℕ) (t : Target) (name : List ℕ) → Some t ≡ slice_get ts n → has same_name (map (λ (x : Target). x.name) ts) name ≡ false → same_name name t.name ≡ false
other_at [] zero t name is none = absurd cc
other_at [] (suc n) t name is none = absurd cc
other_at (x ∷ ts) zero t name is none =
    ap (λ (y : Target). same_name name y.name) (same_Some t x is) ∙ (or_parts (same_name name x.name) (has same_name (map (λ (x : Target). x.name) ts) name) none).0
other_at (x ∷ ts) (suc n) t name is none = other_at ts n t name is (or_parts (same_name name x.name) (has same_name (map (λ (x : Target). x.name) ts) name) none).1

at_index : (ts : List Target) (i : ℕ) (d : Target) → i < length ts → Some (slice_index_or ts i d) ≡ slice_get ts i
at_index [] i d within = absurd (omega (arith, within))
at_index (x ∷ ts) zero d within = refl
at_index (x ∷ ts) (suc i) d within = at_index ts i d (omega (arith, within))

index_is : (ts : List Target) (n : ℕ) (t d : Target) → Some t ≡ slice_get ts n → slice_index_or ts n d ≡ t
index_is [] zero t d is = absurd cc
index_is [] (suc n) t d is = absurd cc
index_is (x ∷ ts) zero t d is = sym (same_Some t x is)
index_is (x ∷ ts) (suc n) t d is = index_is ts n t d is

names_by_number : (ts : List Target) → are_apart same_name (map (λ (x : Target). x.name) ts) ≡ true → (i n : ℕ) (t d : Target) → i < length ts → Some t ≡ slice_get ts n
    → same_name (slice_index_or ts i d).name t.name ≡ (n == i)
names_by_number [] apart i n t d within is = absurd (omega (arith, within))
names_by_number (x ∷ ts) apart zero zero t d within is = ap (λ (y : Target). same_name x.name y.name) (same_Some t x is) ∙ name-itself x.name
names_by_number (x ∷ ts) apart zero (suc n) t d within is =
    let none = not-true _ (and_parts (not (has same_name (map (λ (x : Target). x.name) ts) x.name)) (are_apart same_name (map (λ (x : Target). x.name) ts)) apart).0 in
    let numbers : false ≡ (suc n == 0) = search (arith, nat_tests) in
    other_at ts n t x.name is none ∙ numbers
names_by_number (x ∷ ts) apart (suc i) zero t d within is =
    let none = not-true _ (and_parts (not (has same_name (map (λ (x : Target). x.name) ts) x.name)) (are_apart same_name (map (λ (x : Target). x.name) ts)) apart).0 in
    let numbers : false ≡ (0 == suc i) = search (arith, nat_tests) in
    ap (λ (y : Target). same_name (slice_index_or ts i d).name y.name) (same_Some t x is)
    ∙ (name-symmetric (slice_index_or ts i d).name x.name ∙ (other_at ts i (slice_index_or ts i d) x.name (at_index ts i d (omega (arith, within))) none ∙ numbers))
names_by_number (x ∷ ts) apart (suc i) (suc n) t d within is =
    let numbers : (n == i) ≡ (suc n == suc i) = grind (arith, nat_tests) in
    names_by_number ts (and_parts (not (has same_name (map (λ (x : Target). x.name) ts) x.name)) (are_apart same_name (map (λ (x : Target). x.name) ts)) apart).1 i n t d (omega (arith, within)) is ∙ numbers

in_range : (ts : List Target) (i : ℕ) → has_arms (slice_index_or ts i no_target) ≡ true → i < length ts
in_range [] i arms = absurd cc
in_range (x ∷ ts) zero arms = omega arith
in_range (x ∷ ts) (suc i) arms = omega (arith, in_range ts i arms)

all_const : {X : Type 0} (b : Bool) → b ≡ true → (xs : List X) → list_all (λ _. b) xs ≡ true
all_const b is [] = refl
all_const b is (x ∷ xs) = rw is (all_const b is xs)

module _ (m : Migration) (lawful : IsLawfulMigration m) (rows : List Numbered) (are : named m rows ≡ gathered m) where
  abbrev old : Database
  old = old_of m

  abbrev q : Migrate
  q = m.plan.migrate

  -- each row is of a target that has an arm
  with_arms : (t : Target) (arms : List Arm) → t.arms ≡ arms → list_all (λ (p : Target × Arm). has_arms p.0) (map (λ (arm : Arm). (t, arm)) arms) ≡ true
  with_arms t [] is = refl
  with_arms t (a ∷ arms) is =
      let some : has_arms t ≡ true = ap (λ (arms : List Arm). nat_lt 0 (length arms)) is ∙ search (arith, nat_tests) in
      all_of_map (λ (p : Target × Arm). has_arms p.0) (λ (arm : Arm). (t, arm)) (a ∷ arms) (all_const (has_arms t) some (a ∷ arms))

  each_with_arms : (ts : List Target) → list_all (λ (t : Target). list_all (λ (p : Target × Arm). has_arms p.0) (map (λ (arm : Arm). (t, arm)) t.arms)) ts ≡ true
  each_with_arms [] = refl
  each_with_arms (t ∷ ts) = rw (with_arms t t.arms refl) (each_with_arms ts)

  abbrev of_some_arm : Target × List Value → Bool
  of_some_arm x = has_arms x.0

  parts_of_arms : list_all of_some_arm (flat_map (whole old q) (arms_of q)) ≡ true
  parts_of_arms =
      all_of_blocks of_some_arm (whole old q) (arms_of q)
      (all_so (λ (p : Target × Arm). has_arms p.0) (λ (p : Target × Arm). list_all of_some_arm (whole old q p)) (λ p some. all_of_map of_some_arm (λ (row : List Value). (p.0, row)) _ (all_const (has_arms p.0) some _))
      (arms_of q) (all_of_blocks (λ (p : Target × Arm). has_arms p.0) (λ (t : Target). map (λ (arm : Arm). (t, arm)) t.arms) q.targets (each_with_arms q.targets)))

  numbers_fit : list_all (λ (p : Numbered). has_arms (target_at m p.0)) rows ≡ true
  numbers_fit =
      sym (list_all-map of_some_arm (λ (p : Numbered). (target_at m p.0, p.1)) rows)
      ∙ (ap (list_all of_some_arm) are
      ∙ (list_all-same_items of_some_arm (through (gathered_alike m) (all_parts old q (arms_fine old q lawful.lawful.database lawful.lawful.unobjected))) ∙ parts_of_arms))

  names_apart : are_apart same_name (map (λ (x : Target). x.name) q.targets) ≡ true
  names_apart = (new_names [] q.targets (names_new old q lawful.lawful.database lawful.lawful.unobjected)).0

  kept_named : (t : Target) (ps : List Numbered) → map (λ (x : Target × List Value). x.1) (filter (λ (x : Target × List Value). same_name x.0.name t.name) (named m ps)) ≡ map (λ (p : Numbered). p.1) (filter (λ (p : Numbered). same_name (target_at m p.0).name t.name) ps)
  kept_named t [] = refl
  kept_named t (p ∷ ps) =
      elim (same_name (target_at m p.0).name t.name) as (λ b. map (λ (x : Target × List Value). x.1) (cond b ((target_at m p.0, p.1) ∷ filter (λ (x : Target × List Value). same_name x.0.name t.name) (named m ps)) (filter (λ (x : Target × List Value). same_name x.0.name t.name) (named m ps)))
      ≡ map (λ (p : Numbered). p.1) (cond b (p ∷ filter (λ (p : Numbered). same_name (target_at m p.0).name t.name) ps) (filter (λ (p : Numbered). same_name (target_at m p.0).name t.name) ps))) [
        | true ↦ ap (λ (rs : List (List Value)). p.1 ∷ rs) (kept_named t ps)
        | false ↦ kept_named t ps
      ]

  module _ (n : ℕ) (t : Target) (at : Some t ≡ slice_get q.targets n) where
    among : Contains q.targets t
    among = (n, within_if q.targets n t (sym at), index_is q.targets n t t at)

    by_number : filter (λ (p : Numbered). same_name (target_at m p.0).name t.name) rows ≡ filter (λ (p : Numbered). n == p.0) rows
    by_number =
        filter_equal_where (λ (p : Numbered). has_arms (target_at m p.0)) (λ (p : Numbered). same_name (target_at m p.0).name t.name) (λ (p : Numbered). n == p.0)
        (λ p some. names_by_number q.targets names_apart p.0 n t no_target (in_range q.targets p.0 some) at) rows numbers_fit

    -- the rows of a number are those of the image
    rows_alike : SameItems (rows_numbered n rows) (image_of old t)
    rows_alike =
        through (same_items_if _ _ (sym (ap (λ (ps : List Numbered). map (λ (p : Numbered). p.1) ps) by_number) ∙ (sym (kept_named t rows) ∙ ap (λ (xs : List (Target × List Value)). map (λ (x : Target × List Value). x.1) (filter (λ (x : Target × List Value). same_name x.0.name t.name) xs)) are)))
        (through (mapped (λ (x : Target × List Value). x.1) (filter_same_items (λ (x : Target × List Value). same_name x.0.name t.name) (gathered_alike m)))
        (through (same_items_if _ _ (named_blocks t.name (part_of old q) (granules_of old q))) (same_rows old q lawful.lawful t among)))

    abbrev key : List Value → List Value
    key = key_of (target_table old t)

    keys_apart : are_apart same_key (map key (rows_numbered n rows)) ≡ true
    keys_apart = are_apart-same_items key_cmp_total (mapped key rows_alike) ∙ image_keys_apart old q lawful.lawful t among

    admitted : list_all (is_admitted (target_table old t)) (image_of old t) ≡ true
    admitted =
        image_admitted old lawful.lawful.database t (target_unobjected old q lawful.lawful t among)
        (all_of_contained (λ (t : Target). list_all (goes_over_few old) t.arms) q.targets t (few_sources old q lawful.lawful.few) among)

    is_made : (made : Made) → ◌≡◌ {A = Sorted} (made.0, made.1.items) (target_table old t, rows_numbered n rows) → IsMade old t made
    is_made made is =
        let table : made.0 ≡ target_table old t = ap (λ (s : Sorted). s.0) is in
        let own : made.1.items ≡ rows_numbered n rows = ap (λ (s : Sorted). s.1) is in
        record {
          table = table;
          can = record {
            within = rw (table, own) (all_within (target_table old t) (key_within old t (target_unobjected old q lawful.lawful t among)) (rows_numbered n rows) (list_all-same_items (is_admitted (target_table old t)) rows_alike ∙ admitted));
            keys = rw (table, own) (different-apart (target_table old t) (rows_numbered n rows) ∙ keys_apart);
          };
          image =
              ap (stored_in_order (target_table old t)) own
              ∙ ap (λ (rows : List (List Value)). let s : Stored = record { table = target_table old t; rows = rows } in s) (with_placed-same_items key_cmp_total key rows_alike [] keys_apart);
        }

  made_from : (n : ℕ) (ts : List Target) → ((i : ℕ) (t : Target) → Some t ≡ slice_get ts i → Some t ≡ slice_get q.targets (n + i)) → (made : List Made) → rows_made made ≡ sorted_from n (map (target_table old) ts) rows → AreMade old ts made
  made_from n [] at [] is = tt
  made_from n [] at (x ∷ made) is = absurd cc
  made_from n (t ∷ ts) at [] is = absurd cc
  made_from n (t ∷ ts) at (x ∷ made) is =
      let here : n + 0 ≡ n = omega arith in
      let head : ◌≡◌ {A = Sorted} (x.0, x.1.items) (target_table old t, rows_numbered n rows) = cc in
      let rest : rows_made made ≡ sorted_from (n + 1) (map (target_table old) ts) rows = cc in (
        is_made n t (at 0 t refl ∙ ap (slice_get q.targets) here) x head,
        made_from (n + 1) ts (λ i u there. let same : n + suc i ≡ n + 1 + i = omega arith in at (suc i) u there ∙ ap (slice_get q.targets) same) made rest,
      )

  pub all_made : (made : List Made) → rows_made made ≡ sorted_from 0 (map (target_table old) q.targets) rows → AreMade old q.targets made
  all_made made is = made_from 0 q.targets (λ i t there. let same : i ≡ 0 + i = omega arith in there ∙ ap (slice_get q.targets) same) made is
