-- No total fills a column of a new table's key.
use Rattle.std.proofs.Common.{◌≡◌, ℕ, zero, suc, ◌+◌, ◌<◌, Bool, true, false, not, ◌&&◌, ◌||◌, nat_eq, nat_lt, if◌then◌else◌, List, [], ◌∷◌, map, length, get_or, position, Option, Some, None, is_some, refl, sym, ap, ◌∙◌, arith}
use Rattle.std.specs.Prelude.{option_map}
use Rattle.std.specs.List.{list_all, filter_map, cons_option, enumerate_from}
use Rattle.std.specs.Option.{option_eq}
use Rattle.std.proofs.lemmas.Bool.{and_parts, and_from, not_from_false, or_from, false≢true, eqb-true}
use Rattle.std.proofs.lemmas.Bool.Decides.{nat_tests}
use Rattle.std.proofs.lemmas.List.{length-map, get_or-map}
use Rattle.std.proofs.lemmas.List.Quantifiers.{position-Some}
use Rattle.bf_base.specs.Lists.{has}
use Rattle.bf_tree.specs.declared.migration.Arm.{Arm}
use Rattle.bf_tree.specs.declared.migration.Item.{Item}
use Rattle.bf_tree.specs.declared.migration.Item.TheVariants as item
use Rattle.bf_tree.specs.declared.migration.Target.{Target}
use Rattle.bf_sql.specs.Database.{Database}
use Rattle.bf_sql.specs.Scopes.{place_of}
use Rattle.bf_sql.specs.migrations.MigrationObjections.{is_by_row, keeps_apart, tag_of, target_objections}
use Rattle.bf_sql.specs.migrations.Need.{total_places}
use Rattle.bf_sql.specs.migrations.Targets.{arm_kind, arm_key, arm_scope, first_arm, is_total, item_places, key_items, plain_ref, target_table}
use Rattle.bf_image.proofs.making.Unobjected.{key_there}

-- the places that totals fill, of items of which the first is at a place
abbrev totals_from : ℕ → List Item → List ℕ
totals_from first items = filter_map (λ i. if is_total i.1 then Some i.0 else None) (enumerate_from first items)

none_before : (place first : ℕ) (items : List Item) → place < first → has nat_eq (totals_from first items) place ≡ false
none_before place first [] h = refl
none_before place first (i ∷ items) h = elim (is_total i) as (λ b. has nat_eq (cons_option (if b then Some first else None) (totals_from (first + 1) items)) place ≡ false) [
  | true ↦ let other : nat_eq place first ≡ false = grind (arith, nat_tests) in or_from _ _ other (none_before place (first + 1) items (omega arith))
  | false ↦ none_before place (first + 1) items (omega arith)
]

unfilled_at : (d : Item) (place first : ℕ) (items : List Item) (j : ℕ) → place ≡ first + j → j < length items → is_total (get_or items j d) ≡ false → has nat_eq (totals_from first items) place ≡ false
unfilled_at d place first [] j at h e = absurd (omega arith)
unfilled_at d place first (i ∷ items) zero at h e =
    ap (λ b. has nat_eq (cons_option (if b then Some first else None) (totals_from (first + 1) items)) place) e ∙ none_before place (first + 1) items (omega arith)
unfilled_at d place first (i ∷ items) (suc j) at h e =
    let rest = unfilled_at d place (first + 1) items j (omega arith) (omega arith) e in
    elim (is_total i) as (λ b. has nat_eq (cons_option (if b then Some first else None) (totals_from (first + 1) items)) place ≡ false) [
      | true ↦ let other : nat_eq place first ≡ false = grind (arith, nat_tests) in or_from _ _ other rest
      | false ↦ rest
    ]

abbrev is_unfilled : List Item → ℕ → Bool
is_unfilled items place = not (has nat_eq (totals_from 0 items) place)

some_at : (k : ℕ) (o : Option ℕ) → option_eq nat_eq (Some k) o ≡ true → o ≡ Some k
some_at k None e = absurd (false≢true e)
some_at k (Some j) e = ap Some (sym (eqb-true k j e))

module _ (old : Database) (arm : Arm) where
  -- an item that is a column is no total
  plain_alone : (i : Item) (k : ℕ) → option_map (place_of (arm_scope old arm)) (plain_ref i) ≡ Some k → is_total i ≡ false
  plain_alone (item.Column ref) k e = refl
  plain_alone (item.Named e name) k is = refl
  plain_alone (item.Total total name) k e = absurd cc

  keys_unfilled : (keys : List ℕ) → list_all (is_unfilled arm.items) (filter_map (λ k. k) (map (λ k. position (option_eq nat_eq (Some k)) (item_places old arm)) keys)) ≡ true
  keys_unfilled [] = refl
  keys_unfilled (k ∷ keys) =
      let rest = keys_unfilled keys in
      let d : Item = item.Column (record { table = None; column = [] }) in
      let place_in : Item → Option ℕ = λ i. option_map (place_of (arm_scope old arm)) (plain_ref i) in
      elim (position (option_eq nat_eq (Some k)) (item_places old arm)) as (λ o. position (option_eq nat_eq (Some k)) (item_places old arm) ≡ o
      → list_all (is_unfilled arm.items) (cons_option o (filter_map (λ k. k) (map (λ k. position (option_eq nat_eq (Some k)) (item_places old arm)) keys))) ≡ true) [
        | None ↦ λ at. rest
        | Some j ↦ λ at.
            let found = position-Some (option_eq nat_eq (Some k)) (item_places old arm) j (place_in d) at in
            let within : j < length arm.items = omega (arith, found.0, length-map arm.items place_in) in
            let here = get_or-map place_in arm.items j d (place_in d) within in
            let alone = plain_alone (get_or arm.items j d) k (sym here ∙ some_at k _ found.1) in
            and_from _ _ (not_from_false _ (unfilled_at d j 0 arm.items j (omega arith) within alone)) rest
      ] refl

tag_unfilled : (items : List Item) → is_some (tag_of items) ≡ true → is_unfilled items 0 ≡ true
tag_unfilled [] e = refl
tag_unfilled (item.Named e name ∷ items) is = not_from_false _ (none_before 0 1 items (omega arith))
tag_unfilled (item.Column ref ∷ items) e = absurd (false≢true e)
tag_unfilled (item.Total total name ∷ items) e = absurd (false≢true e)

module _ (old : Database) (t : Target) (none : target_objections old t ≡ []) where
  pub key_unfilled : list_all (λ place. not (has nat_eq (total_places t) place)) (target_table old t).key ≡ true
  key_unfilled = of t.arms (and_parts _ _ (key_there old t none)).1
    where
      keys : (a : Arm) → list_all (is_unfilled a.items) (filter_map (λ k. k) (key_items old a)) ≡ true
      keys a = keys_unfilled old a (arm_key old a)

      of : (arms : List Arm) → (nat_lt (length arms) 2 || keeps_apart old arms) ≡ true
          → list_all (is_unfilled (first_arm arms).items) (filter_map (λ k. k) (let keys = key_items old (first_arm arms) in if nat_lt 1 (length arms) then Some 0 ∷ keys else keys)) ≡ true
      of [] apart = keys (first_arm [])
      of (a ∷ []) apart = keys a
      of (a ∷ b ∷ arms) apart =
          let more : nat_lt 1 (length (a ∷ b ∷ arms)) ≡ true = grind (arith, nat_tests) in
          let few : nat_lt (length (a ∷ b ∷ arms)) 2 ≡ false = grind (arith, nat_tests) in
          let parts = and_parts (list_all (λ arm. is_by_row (arm_kind old arm) && is_some (tag_of arm.items)) (a ∷ b ∷ arms) && _) _ (sym (ap (λ c. c || keeps_apart old (a ∷ b ∷ arms)) few) ∙ apart) in
          let tags = and_parts (list_all (λ arm. is_by_row (arm_kind old arm) && is_some (tag_of arm.items)) (a ∷ b ∷ arms)) _ parts.0 in
          let first = and_parts (is_by_row (arm_kind old a)) (is_some (tag_of a.items)) (and_parts _ _ tags.0).0 in
          ap (λ c. list_all (is_unfilled a.items) (filter_map (λ k. k) (if c then Some 0 ∷ key_items old a else key_items old a))) more
          ∙ and_from _ _ (tag_unfilled a.items first.1) (keys a)
