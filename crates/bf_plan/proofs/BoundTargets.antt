-- What stands behind the arms of a target, over its arms as they are bound.
use Rattle.std.proofs.Common.{◌≡◌, ℕ, ℤ, ◌+◌, Bool, true, false, not, ◌&&◌, ◌||◌, List, [], ◌∷◌, ◌++◌, map, length, take, drop, Option, Some, is_some, unwrap_or, position, nat_eq, refl, sym, ap, ap₂, ◌∙◌, append_assoc, nat_le, nat_lt, ◌==◌, le-ltb, lt-ltb, arith}
use Rattle.std.specs.List.{flat_map, filter_map, list_all, list_any, reduce, enumerate_from}
use Rattle.std.specs.Option.{option_eq}
use Rattle.std.specs.Ordering.{int_eq}
use lib.Pointwise.{pointwise}
use Rattle.std.proofs.lemmas.List.{length-map, map-append}
use Rattle.bf_base.proofs.Order.{list_any-map}
use Rattle.bf_base.specs.Lists.{has, same_name, when, with_before, with_before_from}
use Rattle.bf_base.specs.Tables.{same_kind}
use Rattle.bf_base.specs.Limits.{most_columns}
use Rattle.bf_base.specs.declared.table.Table.{Table}
use Rattle.bf_base.specs.declared.table.Admit.{Admit}
use Rattle.bf_base.specs.declared.table.Admit.TheVariants as admits
use Rattle.bf_base.specs.declared.table.Kind.{Kind}
use Rattle.bf_tree.specs.Limits.{has_few_items}
use Rattle.bf_tree.specs.declared.migration.Arm.{Arm}
use Rattle.bf_tree.specs.declared.migration.Item.{Item}
use Rattle.bf_tree.specs.declared.migration.Target.{Target}
use Rattle.bf_tree.specs.declared.reply.Refusal.{Refusal}
use Rattle.bf_tree.specs.declared.reply.Refusal.TheVariants as refusal
use Rattle.bf_tree.specs.declared.plan.ArmKind.{ArmKind}
use Rattle.bf_tree.specs.declared.plan.ArmKind.TheVariants.{ByFrom, ByJoin, ByPair, ByGroup}
use Rattle.bf_sql.specs.Database.{Database}
use Rattle.bf_sql.specs.Scopes.{Scope, twice_objections}
use Rattle.bf_sql.specs.migrations.Extents.{may_fail}
use Rattle.bf_sql.specs.migrations.MigrationObjections.{arm_objections, failing_objections, has_key, inherits_key, is_by_row, item_kinds, keeps_apart, kind_of_item, tag_of, target_objections}
use Rattle.bf_sql.specs.migrations.Targets.{arm_key, arm_kind, arm_scope, column_admit, either_admit, extent_of_item, first_arm, item_admit, item_name, key_items, target_key, target_table}
use Rattle.bf_plan.specs.Arms.{bound_arm, unit_kind_of}
use Rattle.bf_plan.specs.Items.{bound_item}
use Rattle.bf_plan.specs.Targets.{admits_at, failing_in, first_items, gives_key, is_miscounted, is_misfit, is_rows, is_tagged, keeps_apart_by, key_of_arms, name_objections, names_objections, objections_behind, table_of_arms, tagged_by}
use Rattle.bf_plan.specs.declared.arm.BoundArm.{BoundArm}
use Rattle.bf_plan.specs.declared.item.BoundItem.{BoundItem}

-- tests of what a map gives
module _ {X Y : Type 0} (f : X → Y) where
  all-mapped : (p : Y → Bool) (q : X → Bool) → ((x : X) → p (f x) ≡ q x) → (xs : List X) → list_all p (map f xs) ≡ list_all q xs
  all-mapped p q one [] = refl
  all-mapped p q one (x ∷ xs) = ap₂ (λ b c. b && c) (one x) (all-mapped p q one xs)

  any-mapped : (p : Y → Bool) (q : X → Bool) → ((x : X) → p (f x) ≡ q x) → (xs : List X) → list_any p (map f xs) ≡ list_any q xs
  any-mapped p q one [] = refl
  any-mapped p q one (x ∷ xs) = ap₂ (λ b c. b || c) (one x) (any-mapped p q one xs)

  blocks-mapped : {Z : Type 0} (g : Y → List Z) (h : X → List Z) → ((x : X) → g (f x) ≡ h x) → (xs : List X) → flat_map g (map f xs) ≡ flat_map h xs
  blocks-mapped g h one [] = refl
  blocks-mapped g h one (x ∷ xs) = ap₂ (λ b c. b ++ c) (one x) (blocks-mapped g h one xs)

  -- and behind those before
  all_behind-mapped : (p : List Y × Y → Bool) (q : List X × X → Bool) → ((seen : List X) (x : X) → p (map f seen, f x) ≡ q (seen, x)) → (seen xs : List X) → list_all p (with_before_from (map f seen) (map f xs)) ≡ list_all q (with_before_from seen xs)
  all_behind-mapped p q one seen [] = refl
  all_behind-mapped p q one seen (x ∷ xs) =
      let more : map f (seen ++ x ∷ []) ≡ map f seen ++ f x ∷ [] = map-append f seen (x ∷ []) in
      ap₂ (λ b c. b && c) (one seen x) (ap (λ ys. list_all p (with_before_from ys (map f xs))) (sym more) ∙ all_behind-mapped p q one (seen ++ x ∷ []) xs)

  blocks_behind-mapped : {Z : Type 0} (g : List Y × Y → List Z) (h : List X × X → List Z) → ((seen : List X) (x : X) → g (map f seen, f x) ≡ h (seen, x)) → (seen xs : List X) → flat_map g (with_before_from (map f seen) (map f xs)) ≡ flat_map h (with_before_from seen xs)
  blocks_behind-mapped g h one seen [] = refl
  blocks_behind-mapped g h one seen (x ∷ xs) =
      let more : map f (seen ++ x ∷ []) ≡ map f seen ++ f x ∷ [] = map-append f seen (x ∷ []) in
      ap₂ (λ b c. b ++ c) (one seen x) (ap (λ ys. flat_map g (with_before_from ys (map f xs))) (sym more) ∙ blocks_behind-mapped g h one (seen ++ x ∷ []) xs)

regroup : (a w k n f e : List Refusal) → ((((a ++ w) ++ k) ++ n) ++ f) ++ e ≡ a ++ ((((w ++ k) ++ n) ++ f) ++ e)
regroup a w k n f e = simp append_assoc

rows-kind : (kind : ArmKind) → is_rows (unit_kind_of kind) ≡ is_by_row kind
rows-kind ByFrom = refl
rows-kind ByJoin = refl
rows-kind ByPair = refl
rows-kind ByGroup = refl

names-listed : (items : List Item) → names_objections items ≡ flat_map (λ p. twice_objections p.0 p.1) (with_before (map item_name items))
names-listed items =
    sym (blocks_behind-mapped item_name (λ p. twice_objections p.0 p.1) (λ p. name_objections p.0 p.1)
    (λ seen x. ap (λ (b : Bool). when b (refusal.NameTwice (item_name x))) (list_any-map (same_name (item_name x)) item_name seen)) [] items)

failing-bound : (scope : Scope) (name : List ℕ) (n : ℕ) (items : List Item) → flat_map (λ p. when p.1.may_fail (refusal.MayFail name p.0)) (enumerate_from n (map (bound_item scope) items)) ≡ flat_map (λ p. when (may_fail (extent_of_item scope p.1)) (refusal.MayFail name p.0)) (enumerate_from n items)
failing-bound scope name n [] = refl
failing-bound scope name n (i ∷ is) = ap (λ zs. when (may_fail (extent_of_item scope i)) (refusal.MayFail name n) ++ zs) (failing-bound scope name (n + 1) is)

none_given : (ks : List ℕ) → filter_map (λ k. k) (map (λ k. position (option_eq nat_eq (Some k)) []) ks) ≡ []
none_given [] = refl
none_given (k ∷ ks) = none_given ks

module _ (db : Database) where
  items-first : (arms : List Arm) → length (first_items (map (bound_arm db) arms)) ≡ length (first_arm arms).items
  items-first [] = refl
  items-first (arm ∷ arms) = length-map arm.items (bound_item (arm_scope db arm))

  kinds-bound : (scope : Scope) (items : List Item) → map (λ (i : BoundItem). i.kind) (map (bound_item scope) items) ≡ map (kind_of_item scope) items
  kinds-bound scope [] = refl
  kinds-bound scope (i ∷ is) = ap (λ zs. kind_of_item scope i ∷ zs) (kinds-bound scope is)

  kinds-first : (arms : List Arm) → map (λ (i : BoundItem). i.kind) (first_items (map (bound_arm db) arms)) ≡ item_kinds db (first_arm arms)
  kinds-first [] = refl
  kinds-first (arm ∷ arms) = kinds-bound (arm_scope db arm) arm.items

  counts-bound : (arms : List Arm) → list_any (is_miscounted (first_items (map (bound_arm db) arms))) (map (bound_arm db) arms) ≡ list_any (λ arm. not (length arm.items == length (first_arm arms).items)) arms
  counts-bound arms =
      any-mapped (bound_arm db) (is_miscounted (first_items (map (bound_arm db) arms))) (λ arm. not (length arm.items == length (first_arm arms).items))
      (λ arm. ap₂ (λ (m n : ℕ). not (m == n)) (length-map arm.items (bound_item (arm_scope db arm))) (items-first arms)) arms

  misfits-bound : (arms : List Arm) → list_any (is_misfit (first_items (map (bound_arm db) arms))) (map (bound_arm db) arms) ≡ list_any (λ arm. not (pointwise same_kind (item_kinds db (first_arm arms)) (item_kinds db arm))) arms
  misfits-bound arms =
      any-mapped (bound_arm db) (is_misfit (first_items (map (bound_arm db) arms))) (λ arm. not (pointwise same_kind (item_kinds db (first_arm arms)) (item_kinds db arm)))
      (λ arm. ap₂ (λ (ks ls : List Kind). not (pointwise same_kind ks ls)) (kinds-first arms) (kinds-bound (arm_scope db arm) arm.items)) arms

  apart-bound : (arms : List Arm) → keeps_apart_by (map (bound_arm db) arms) ≡ keeps_apart db arms
  apart-bound arms =
      let tagged = all-mapped (bound_arm db) is_tagged (λ arm. is_by_row (arm_kind db arm) && is_some (tag_of arm.items)) (λ arm. ap (λ b. b && is_some (tag_of arm.items)) (rows-kind (arm_kind db arm))) arms in
      let different = all_behind-mapped (bound_arm db) (λ p. not (tagged_by p.0 p.1.tag)) (λ p. not (has (option_eq int_eq) (map (λ a. tag_of a.items) p.0) (tag_of p.1.items)))
      (λ seen x. ap not (tags-bound seen (tag_of x.items))) [] arms in
      let alike = all_behind-mapped (bound_arm db) (λ p. list_all (λ a. pointwise (option_eq nat_eq) a.key_items p.1.key_items) p.0) (λ p. list_all (λ a. pointwise (option_eq nat_eq) (key_items db a) (key_items db p.1)) p.0)
      (λ seen x. all-mapped (bound_arm db) (λ a. pointwise (option_eq nat_eq) a.key_items (key_items db x)) (λ a. pointwise (option_eq nat_eq) (key_items db a) (key_items db x)) (λ a. refl) seen) [] arms in
      ap₂ (λ b c. b && c) (ap₂ (λ b c. b && c) tagged different) alike
    where
      tags-bound : (seen : List Arm) (tag : Option ℤ) → tagged_by (map (bound_arm db) seen) tag ≡ has (option_eq int_eq) (map (λ (a : Arm). tag_of a.items) seen) tag
      tags-bound seen tag =
          any-mapped (bound_arm db) (λ a. option_eq int_eq tag a.tag) (λ a. option_eq int_eq tag (tag_of a.items)) (λ a. refl) seen ∙ sym (list_any-map (option_eq int_eq tag) (λ (a : Arm). tag_of a.items) seen)

  key-bound : (target : Target) → gives_key (map (bound_arm db) target.arms) ≡ has_key db target
  key-bound target =
      let inherited = all-mapped (bound_arm db) (λ a. a.inherits_key) (inherits_key db) (λ a. refl) target.arms in
      let counted = ap (λ (n : ℕ). nat_lt n 2) (length-map target.arms (bound_arm db)) in
      ap₂ (λ b c. b && c) inherited (ap₂ (λ b c. b || c) counted (apart-bound target.arms))

  pub objections-bound : (target : Target) → target_objections db target ≡ flat_map (arm_objections db target) target.arms ++ objections_behind target (map (bound_arm db) target.arms)
  objections-bound target =
      let fails = blocks-mapped (bound_arm db) (failing_in target.name) (failing_objections db target) (λ arm. failing-bound (arm_scope db arm) target.name 1 arm.items) target.arms in
      (λ i. flat_map (arm_objections db target) target.arms
      ++ when (sym (counts-bound target.arms) i) refusal.WrongCount
      ++ when (sym (misfits-bound target.arms) i) refusal.TypeMismatch
      ++ sym (names-listed (first_arm target.arms).items) i
      ++ sym fails i
      ++ when (not (sym (key-bound target) i)) (refusal.KeyNotInherited target.name))
      ∙ regroup (flat_map (arm_objections db target) target.arms)
      (when (list_any (is_miscounted (first_items (map (bound_arm db) target.arms))) (map (bound_arm db) target.arms)) refusal.WrongCount)
      (when (list_any (is_misfit (first_items (map (bound_arm db) target.arms))) (map (bound_arm db) target.arms)) refusal.TypeMismatch)
      (names_objections (first_arm target.arms).items)
      (flat_map (failing_in target.name) (map (bound_arm db) target.arms))
      (when (not (gives_key (map (bound_arm db) target.arms))) (refusal.KeyNotInherited target.name))

  -- the table
  admits-listed : (scope : Scope) (items : List Item) → map (λ (i : BoundItem). i.admits) (map (bound_item scope) items) ≡ map (item_admit scope) items
  admits-listed scope [] = refl
  admits-listed scope (i ∷ is) = ap (λ zs. item_admit scope i ∷ zs) (admits-listed scope is)

  admits-bound : (target : Target) (place : ℕ) → admits_at (map (bound_arm db) target.arms) place ≡ column_admit db target place
  admits-bound target place =
      ap (λ (bs : List Admit). unwrap_or (reduce either_admit bs) admits.Int)
      (blocks-mapped (bound_arm db) (λ arm. take 1 (drop place (map (λ i. i.admits) arm.items))) (λ arm. take 1 (drop place (map (item_admit (arm_scope db arm)) arm.items)))
      (λ arm. ap (λ (bs : List Admit). take 1 (drop place bs)) (admits-listed (arm_scope db arm) arm.items)) target.arms)

  keys-first : (name : List ℕ) (arms : List Arm) → key_of_arms (map (bound_arm db) arms) ≡ filter_map (λ k. k) (target_key db (record { name = name; arms = arms }))
  keys-first name [] = sym (none_given (arm_key db (first_arm [])))
  keys-first name (one ∷ []) = refl
  keys-first name (one ∷ two ∷ more) =
      let count = length-map more (bound_arm db) in
      let few : nat_lt (length (map (bound_arm db) (one ∷ two ∷ more))) 2 ≡ false = le-ltb _ _ (omega arith) in
      let several : nat_lt 1 (length (one ∷ two ∷ more)) ≡ true = lt-ltb _ _ (omega arith) in
      rw (few, several) refl

  pub table-bound : (target : Target) → table_of_arms target (map (bound_arm db) target.arms) ≡ target_table db target
  table-bound target = λ i. record {
    name = target.name;
    columns = map (λ (p : ℕ × Item). record { name = item_name p.1; admits = admits-bound target p.0 i }) (enumerate_from 0 (first_arm target.arms).items);
    key = keys-first target.name target.arms i;
  }

  few_each : (arms : List Arm) → list_all has_few_items arms ≡ true → list_all (λ (a : BoundArm). nat_le (length a.items) most_columns) (map (bound_arm db) arms) ≡ true
  few_each arms few = all-mapped (bound_arm db) (λ (a : BoundArm). nat_le (length a.items) most_columns) has_few_items (λ arm. ap (λ (n : ℕ). nat_le n most_columns) (length-map arm.items (bound_item (arm_scope db arm)))) arms ∙ few

  module _ (target : Target) (arms : List BoundArm) (are : (flat_map (arm_objections db target) target.arms ≡ []) × (arms ≡ map (bound_arm db) target.arms)) where
    pub behind_left : target_objections db target ≡ objections_behind target arms
    behind_left =
        objections-bound target ∙ ap (λ (rs : List Refusal). rs ++ objections_behind target (map (bound_arm db) target.arms)) are.0 ∙ ap (objections_behind target) (sym are.1)

    pub table_made : (table : Table) → table ≡ table_of_arms target arms → table ≡ target_table db target
    table_made table made = made ∙ ap (table_of_arms target) are.1 ∙ table-bound target

    pub few-bound : list_all has_few_items target.arms ≡ true → list_all (λ (a : BoundArm). nat_le (length a.items) most_columns) arms ≡ true
    few-bound few = ap (list_all (λ (a : BoundArm). nat_le (length a.items) most_columns)) are.1 ∙ few_each target.arms few
