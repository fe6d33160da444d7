-- A flip leaves a database.
use lib.ListN.{length-map}
use Rattle.std.proofs.Common.{◌≡◌, ℕ, ◌<◌, Bool, true, false, not, ◌&&◌, ◌||◌, nat_lt, nat_eq, cond, if◌then◌else◌, List, [], ◌∷◌, ◌++◌, map, flat_map, filter, length, position, Option, Some, None, is_some, refl, sym, ap, ap₂, ◌∙◌, arith}
use Rattle.std.specs.List.{list_any, list_all, filter_map, cons_option, enumerate_from}
use Rattle.std.specs.Option.{option_eq}
use Rattle.std.specs.Ordering.{eq_by_cmp}
use Rattle.std.specs.FinMap.{IsAntisymmetric, nat_cmp-IsAntisymmetric, slice_cmp-IsAntisymmetric}
use Rattle.std.proofs.lemmas.Bool.{and_parts, and_from, or_parts, or_left, or_right, not-true, not_from_false, false≢true, lt-ltb}
use Rattle.std.proofs.lemmas.List.{map-append}
use Rattle.std.proofs.lemmas.List.Folds.{list_any-append}
use Rattle.std.proofs.lemmas.List.Quantifiers.{position-Some}
use Rattle.std.proofs.lemmas.Bool.Decides.{nat_tests}
use Rattle.bf_base.specs.declared.table.Column.{Column}
use Rattle.bf_base.specs.Values.{key_cmp_total}
use Rattle.bf_base.specs.Lists.{same_name, name_cmp, has, in_order, with_before, with_before_from, when}
use Rattle.bf_base.specs.Tables.{key_of}
use Rattle.bf_base.proofs.Apart.{are_apart, apart-append, apart_from_rises, has-filter, rises-filter, rises-placed_apart}
use Rattle.bf_base.proofs.Names.{name_cmp_total, same_name-tie}
use Rattle.bf_base.proofs.Order.{list_all-with_placed, list_any-with_placed, is_some-look_up}
use Rattle.bf_tree.specs.declared.catalog.IndexRule.{IndexRule}
use Rattle.bf_tree.specs.declared.reply.Refusal.{Refusal}
use Rattle.bf_tree.specs.declared.reply.Refusal.TheVariants as refusal
use Rattle.bf_tree.specs.declared.migration.Item.{Item}
use Rattle.bf_tree.specs.declared.migration.Arm.{Arm}
use Rattle.bf_tree.specs.declared.migration.Target.{Target}
use Rattle.bf_tree.specs.declared.migration.Migrate.{Migrate}
use Rattle.bf_sql.specs.Database.{Database, Stored, IsDatabase, stored_at, stored_in_order, is_keyed, is_admitted, is_within, is_on_table}
use Rattle.bf_sql.specs.migrations.MigrationObjections.{sources_of, is_taken, target_objections, tag_of, keeps_apart, is_by_row}
use Rattle.bf_sql.specs.migrations.Targets.{arm_kind, arm_key, item_places, key_items, first_arm, item_name, column_admit, target_key, target_table}
use Rattle.bf_sql.specs.migrations.Images.{image_of, flipped}
use Rattle.bf_image.specs.Lawful.{IsLawful}
use Rattle.bf_image.proofs.items.Lists.{none_left, none_right, none_when, none_of_each, all_append, all_of_map, all_kept}
use Rattle.bf_image.proofs.items.Names.{name-equal}
use Rattle.bf_image.proofs.cutting.Targets.{new_names}
use Rattle.bf_image.proofs.making.Unobjected.{key_there, names_new, targets_unobjected}
use Rattle.bf_image.proofs.making.Unions.{image_apart}
use Rattle.bf_image.proofs.finding.Owned.{find_alike}
use Rattle.bf_image.proofs.admitting.Admitted.{image_admitted, length_enumerated}
use Rattle.bf_image.proofs.admitting.Few.{goes_over_few, few_sources}

name_anti : IsAntisymmetric name_cmp
name_anti = slice_cmp-IsAntisymmetric nat_cmp-IsAntisymmetric

has_alike : {K : Type 0} (s u : K → K → Bool) → ((a b : K) → s a b ≡ u a b) → (ks : List K) (k : K) → has s ks k ≡ has u ks k
has_alike s u one [] k = refl
has_alike s u one (j ∷ ks) k = ap₂ (λ b c. b || c) (one k j) (has_alike s u one ks k)

apart_alike : {K : Type 0} (s u : K → K → Bool) → ((a b : K) → s a b ≡ u a b) → (ks : List K) → are_apart s ks ≡ are_apart u ks
apart_alike s u one [] = refl
apart_alike s u one (k ∷ ks) = ap₂ (λ b c. not b && c) (has_alike s u one ks k) (apart_alike s u one ks)

all_before : {X : Type 0} (p : List X → X → Bool) (q : X → Bool) → ((before : List X) (x : X) → p before x ≡ true → q x ≡ true) → (seen xs : List X) → list_all (λ r. p r.0 r.1) (with_before_from seen xs) ≡ true → list_all q xs ≡ true
all_before p q one seen [] all = refl
all_before p q one seen (x ∷ xs) all = and_from _ _ (one seen x (and_parts _ _ all).0) (all_before p q one (seen ++ x ∷ []) xs (and_parts _ _ all).1)

pub kept_any : {X : Type 0} (p q : X → Bool) → ((x : X) → p x ≡ true → q x ≡ true) → (xs : List X) → list_any p xs ≡ true → list_any p (filter q xs) ≡ true
kept_any p q one [] some = some
kept_any p q one (x ∷ xs) some = of (p x) refl (kept_any p q one xs)
  where
    of : (b : Bool) → p x ≡ b → (list_any p xs ≡ true → list_any p (filter q xs) ≡ true) → list_any p (cond (q x) (x ∷ filter q xs) (filter q xs)) ≡ true
    of true at rest = ap (λ b. list_any p (cond b (x ∷ filter q xs) (filter q xs))) (one x at) ∙ or_left _ _ at
    of false at rest = either (q x) (rest (sym (ap (λ b. b || list_any p xs) at) ∙ some))
      where
        either : (c : Bool) → list_any p (filter q xs) ≡ true → list_any p (cond c (x ∷ filter q xs) (filter q xs)) ≡ true
        either true h = or_right _ _ h
        either false h = h

-- of the items that a test leaves, each passes what follows from the test
pub all_left : {X : Type 0} (p q r : X → Bool) → ((x : X) → q x ≡ true → p x ≡ true → r x ≡ true) → (xs : List X) → list_all p xs ≡ true → list_all r (filter q xs) ≡ true
all_left p q r one [] all = refl
all_left p q r one (x ∷ xs) all = of (q x) refl (all_left p q r one xs (and_parts _ _ all).1)
  where
    of : (b : Bool) → q x ≡ b → list_all r (filter q xs) ≡ true → list_all r (cond (q x) (x ∷ filter q xs) (filter q xs)) ≡ true
    of true at rest = ap (λ b. list_all r (cond b (x ∷ filter q xs) (filter q xs))) at ∙ and_from _ _ (one x at (and_parts _ _ all).0) rest
    of false at rest = ap (λ b. list_all r (cond b (x ∷ filter q xs) (filter q xs))) at ∙ rest

-- of items without an objection, each passes what follows from a test
each_with : {X : Type 0} (f : X → List Refusal) (p q : X → Bool) → ((x : X) → f x ≡ [] → p x ≡ true → q x ≡ true) → (xs : List X) → flat_map f xs ≡ [] → list_all p xs ≡ true → list_all q xs ≡ true
each_with f p q one [] none all = refl
each_with f p q one (x ∷ xs) none all = and_from _ _ (one x (none_left _ _ none) (and_parts _ _ all).0) (each_with f p q one xs (none_right _ _ none) (and_parts _ _ all).1)

-- places of a list are within it
placed_within : (places : List (Option ℕ)) (n : ℕ) → length places ≡ n → (key : List ℕ) → list_all (λ j. nat_lt j n) (filter_map (λ k. k) (map (λ k. position (option_eq nat_eq (Some k)) places) key)) ≡ true
placed_within places n e [] = refl
placed_within places n e (k ∷ key) =
    let rest = placed_within places n e key in
    elim (position (option_eq nat_eq (Some k)) places) as (λ o. position (option_eq nat_eq (Some k)) places ≡ o → list_all (λ j. nat_lt j n) (cons_option o (filter_map (λ k. k) (map (λ k. position (option_eq nat_eq (Some k)) places) key))) ≡ true) [
      | None ↦ λ at. rest
      | Some j ↦ λ at. let less = (position-Some (option_eq nat_eq (Some k)) places j None at).0 in and_from _ _ (lt-ltb _ _ (omega (arith, less, e))) rest
    ] refl

tagged_items : (items : List Item) → is_some (tag_of items) ≡ true → 0 < length items
tagged_items [] e = absurd (false≢true e)
tagged_items (i ∷ items) e = omega arith

module _ (old : Database) (t : Target) (none : target_objections old t ≡ []) where
  -- the key of a new table is of its own columns
  pub key_within : is_within (target_table old t) (target_table old t).key ≡ true
  key_within =
      ap (λ n. list_all (λ place. nat_lt place n) (filter_map (λ k. k) (target_key old t))) long ∙ of t.arms (and_parts _ _ (key_there old t none)).1
    where
      long : length (target_table old t).columns ≡ length (first_arm t.arms).items
      long = length-map (enumerate_from 0 (first_arm t.arms).items) (λ p. let c : Column = record { name = item_name p.1; admits = column_admit old t p.0 } in c) ∙ length_enumerated 0 (first_arm t.arms).items

      keys : (a : Arm) → list_all (λ place. nat_lt place (length a.items)) (filter_map (λ k. k) (key_items old a)) ≡ true
      keys a = placed_within (item_places old a) (length a.items) (length-map a.items _) (arm_key old a)

      of : (arms : List Arm) → (nat_lt (length arms) 2 || keeps_apart old arms) ≡ true
          → list_all (λ place. nat_lt place (length (first_arm arms).items)) (filter_map (λ k. k) (let keys = key_items old (first_arm arms) in if nat_lt 1 (length arms) then Some 0 ∷ keys else keys)) ≡ true
      of [] apart = keys (first_arm [])
      of (a ∷ []) apart = keys a
      of (a ∷ b ∷ arms) apart =
          let more : nat_lt 1 (length (a ∷ b ∷ arms)) ≡ true = grind (arith, nat_tests) in
          let few : nat_lt (length (a ∷ b ∷ arms)) 2 ≡ false = grind (arith, nat_tests) in
          let parts = and_parts (list_all (λ arm. is_by_row (arm_kind old arm) && is_some (tag_of arm.items)) (a ∷ b ∷ arms) && _) _ (sym (ap (λ c. c || keeps_apart old (a ∷ b ∷ arms)) few) ∙ apart) in
          let tags = and_parts (list_all (λ arm. is_by_row (arm_kind old arm) && is_some (tag_of arm.items)) (a ∷ b ∷ arms)) _ parts.0 in
          let first = and_parts (is_by_row (arm_kind old a)) (is_some (tag_of a.items)) (and_parts _ _ tags.0).0 in
          ap (λ c. list_all (λ place. nat_lt place (length a.items)) (filter_map (λ k. k) (if c then Some 0 ∷ key_items old a else key_items old a))) more
          ∙ and_from _ _ (lt-ltb _ _ (tagged_items a.items first.1)) (keys a)

module _ (old : Database) (m : Migrate) (lawful : IsLawful old m) where
  abbrev name : Stored → List ℕ
  name s = s.table.name

  abbrev gone : List ℕ → Bool
  gone n = has same_name (sources_of m) n

  abbrev kept : List Stored
  kept = filter (λ s. not (gone s.table.name)) old.tables

  abbrev made : Target → Stored
  made t = stored_in_order (target_table old t) (image_of old t)

  abbrev new : List Stored
  new = map made m.targets

  abbrev same : List ℕ → List ℕ → Bool
  same = eq_by_cmp name_cmp

  all_targets : (q : Target → Bool) → ((t : Target) → target_objections old t ≡ [] → q t ≡ true) → list_all q m.targets ≡ true
  all_targets q one = none_of_each (target_objections old) q one m.targets (targets_unobjected old m lawful.database lawful.unobjected)

  new_apart : are_apart same (map name new) ≡ true
  new_apart =
      ap (are_apart same) (twice m.targets) ∙ sym (apart_alike same_name same same_name-tie (map (λ t. t.name) m.targets)) ∙ (new_names [] m.targets (names_new old m lawful.database lawful.unobjected)).0
    where
      twice : (ts : List Target) → map name (map made ts) ≡ map (λ t. t.name) ts
      twice [] = refl
      twice (t ∷ ts) = ap (λ ns. t.name ∷ ns) (twice ts)

  kept_apart : are_apart same (map name kept) ≡ true
  kept_apart = apart_from_rises name_cmp_total (map name kept) (rises-filter name_cmp_total name (λ s. not (gone s.table.name)) old.tables lawful.database.tables_by_name)

  not_kept : (t : Target) → (is_some (stored_at old t.name) && not (gone t.name)) ≡ false → has same (map name kept) t.name ≡ false
  not_kept t e =
      let there : is_some (stored_at old t.name) ≡ has same (map name old.tables) t.name =
      ap is_some (find_alike (λ s. same_name s.table.name t.name) (λ s. same s.table.name t.name) (λ s. same_name-tie s.table.name t.name) old.tables) ∙ is_some-look_up name_cmp_total name old.tables t.name in
      has-filter name_cmp_total name name_anti (λ n. not (gone n)) old.tables t.name ∙ ap (λ b. b && not (gone t.name)) (sym there) ∙ e

  none_kept : list_all (λ n. not (has same (map name kept) n)) (map name new) ≡ true
  none_kept =
      all_of_map (λ n. not (has same (map name kept) n)) name new
      (all_of_map (λ s. not (has same (map name kept) s.table.name)) made m.targets
      (all_before (λ before t. not (is_taken old m before t)) (λ t. not (has same (map name kept) t.name))
      (λ before t e. not_from_false _ (not_kept t (or_parts _ _ (not-true _ e)).0)) [] m.targets
      (none_of_each (λ p. when (is_taken old m p.0 p.1) (refusal.TableExists p.1.name)) (λ p. not (is_taken old m p.0 p.1)) (λ p e. not_from_false _ (none_when (is_taken old m p.0 p.1) (refusal.TableExists p.1.name) e)) (with_before m.targets) (none_right _ _ (none_left _ _ lawful.unobjected)))))

  all_apart : are_apart same (map name (new ++ kept)) ≡ true
  all_apart = ap (are_apart same) (map-append name new kept) ∙ apart-append same (map name new) (map name kept) new_apart kept_apart none_kept

  abbrev tables : List Stored
  tables = in_order name_cmp name (new ++ kept)

  all_in_tables : (q : Stored → Bool) → list_all q new ≡ true → list_all q old.tables ≡ true → list_all q tables ≡ true
  all_in_tables q h g = list_all-with_placed name_cmp_total name q [] (new ++ kept) ∙ all_append q new kept h (all_kept q (λ s. not (gone s.table.name)) old.tables g)

  index_kept : (i : IndexRule) → not (gone i.table) ≡ true → is_on_table old i ≡ true → list_any (λ s. same_name s.table.name i.table && is_within s.table i.columns) tables ≡ true
  index_kept i stays on =
      list_any-with_placed name_cmp_total name (λ s. same_name s.table.name i.table && is_within s.table i.columns) [] (new ++ kept)
      ∙ list_any-append (λ s. same_name s.table.name i.table && is_within s.table i.columns) new kept
      ∙ or_right _ _ (kept_any (λ s. same_name s.table.name i.table && is_within s.table i.columns) (λ s. not (gone s.table.name))
      (λ s e. ap (λ n. not (gone n)) (name-equal s.table.name i.table (and_parts _ _ e).0) ∙ stays) old.tables on)

  pub flip_keeps : IsDatabase (flipped old m)
  flip_keeps =
      let is = lawful.database in
      record {
        tables_by_name = rises-placed_apart name_cmp_total name [] (new ++ kept) refl all_apart;
        indexes_by_name = rises-filter name_cmp_total (λ (i : IndexRule). i.name) (λ i. not (gone i.table)) old.indexes is.indexes_by_name;
        rows_by_key = all_in_tables is_keyed (all_of_map is_keyed made m.targets (all_targets (λ t. is_keyed (made t)) (λ t e. rises-placed_apart key_cmp_total (key_of (target_table old t)) [] (image_of old t) refl (image_apart old is t e)))) is.rows_by_key;
        rows_admitted = all_in_tables (λ s. list_all (is_admitted s.table) s.rows)
            (all_of_map (λ s. list_all (is_admitted s.table) s.rows) made m.targets
            (each_with (target_objections old) (λ t. list_all (goes_over_few old) t.arms) (λ t. list_all (is_admitted (target_table old t)) (made t).rows)
            (λ t e few. list_all-with_placed key_cmp_total (key_of (target_table old t)) (is_admitted (target_table old t)) [] (image_of old t) ∙ image_admitted old is t e few)
            m.targets (targets_unobjected old m is lawful.unobjected) (few_sources old m lawful.few))) is.rows_admitted;
        keys_within = all_in_tables (λ s. is_within s.table s.table.key) (all_of_map (λ s. is_within s.table s.table.key) made m.targets (all_targets (λ t. is_within (target_table old t) (target_table old t).key) (λ t e. key_within old t e))) is.keys_within;
        indexes_on_tables = all_left (is_on_table old) (λ i. not (gone i.table)) (is_on_table (flipped old m)) (λ i stays on. index_kept i stays on) old.indexes is.indexes_on_tables;
      }
