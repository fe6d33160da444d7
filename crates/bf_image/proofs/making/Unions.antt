-- The image of a target has each key once.
use lib.Pointwise.{pointwise}
use Rattle.std.proofs.Common.{◌≡◌, ℕ, ◌+◌, ◌≤◌, Bool, true, false, not, ◌&&◌, ◌||◌, nat_lt, nat_eq, if◌then◌else◌, List, [], ◌∷◌, ◌++◌, map, flat_map, length, Option, Some, None, is_some, refl, sym, ap, ap₂, subst, ◌∙◌, arith, is_eq}
use Rattle.std.specs.Prelude.{ℤ}
use Rattle.std.specs.List.{list_all, filter_map}
use Rattle.std.specs.Option.{option_eq}
use Rattle.std.specs.Ordering.{int_eq}
use Rattle.std.proofs.lemmas.Bool.{and_parts, and_from, or_parts, or_from, not-true, not_from_false, false≢true, eqb-true, eq-eqb}
use Rattle.std.proofs.lemmas.Bool.Decides.{Decides-int_eq, nat_tests}
use Rattle.bf_base.specs.declared.value.Value.{Value}
use Rattle.bf_base.specs.declared.value.Value.TheVariants.{Int, Text}
use Rattle.bf_base.specs.Values.{value_cmp}
use Rattle.bf_base.specs.Lists.{same_key, has, with_before_from, with_before}
use Rattle.bf_base.specs.Tables.{cell, key_of}
use Rattle.bf_base.proofs.Apart.{are_apart}
use Rattle.bf_base.proofs.Names.{same_key-pointwise}
use Rattle.bf_tree.specs.Trees.{literal, column, negated, plus, minus, times, joined}
use Rattle.bf_tree.specs.declared.migration.Item.{Item}
use Rattle.bf_tree.specs.declared.migration.Item.TheVariants as item
use Rattle.bf_tree.specs.declared.migration.Arm.{Arm}
use Rattle.bf_tree.specs.declared.migration.Target.{Target}
use Rattle.bf_sql.specs.Database.{Database, IsDatabase, table_rows}
use Rattle.bf_sql.specs.migrations.Targets.{arm_kind, key_items, first_arm, target_table}
use Rattle.bf_sql.specs.migrations.MigrationObjections.{tag_of, inherits_key, keeps_apart, is_by_row, target_objections}
use Rattle.bf_sql.specs.migrations.Images.{item_over, image_of, groups_by, satisfying, rows_of_join}
use Rattle.bf_image.proofs.items.Lists.{all_both}
use Rattle.bf_index.proofs.Bags.{tally, tally-append}
use Rattle.bf_image.proofs.making.Arms.{made, value-equal, key-itself}
use Rattle.bf_image.proofs.cutting.Parts.{whole_by}
use Rattle.bf_image.proofs.making.Unobjected.{two_sided, alone_in_groups, arms_ok, key_there}
use Rattle.bf_image.proofs.making.Keys.{key_places, key_of_made}
use Rattle.bf_image.proofs.items.Once.{count_if, tally_of_blocks, tally_of_map, once_passes, apart_from_tallies}
use Rattle.bf_image.proofs.making.ArmKeys.{once_by}

-- the key of one item more
pub same_cons : (v w : Value) (k l : List Value) → same_key (v ∷ k) (w ∷ l) ≡ (is_eq (value_cmp v w) && same_key k l)
same_cons v w k l = sym (same_key-pointwise (v ∷ k) (w ∷ l)) ∙ ap (λ b. is_eq (value_cmp v w) && b) (same_key-pointwise k l)

tally_never : {X : Type 0} (p : X → Bool) → ((x : X) → p x ≡ false) → (xs : List X) → tally p xs ≡ 0
tally_never p never [] = refl
tally_never p never (x ∷ xs) = ap₂ (λ m n. m + n) (ap count_if (never x)) (tally_never p never xs)

-- items that differ from all before them are apart
module _ {X K : Type 0} (same : K → K → Bool) (equal : (a b : K) → same a b ≡ true → a ≡ b) (itself : (a : K) → same a a ≡ true) (key : X → K) where
  abbrev differs : List X → X → Bool
  differs before x = not (has same (map key before) (key x))

  either_way : (a b : K) → same a b ≡ false → same b a ≡ false
  either_way a b e = of (same b a) refl
    where
      of : (c : Bool) → same b a ≡ c → same b a ≡ false
      of true at = absurd (false≢true (sym e ∙ ap (same a) (equal b a at) ∙ itself a))
      of false at = at

  behind_one : (seen : List X) (x y : X) → differs (seen ++ x ∷ []) y ≡ true → (same (key x) (key y) ≡ false) × (differs seen y ≡ true)
  behind_one [] x y e = (either_way (key y) (key x) (or_parts _ _ (not-true _ e)).0, refl)
  behind_one (s ∷ seen) x y e =
      let parts = or_parts (same (key y) (key s)) (has same (map key (seen ++ x ∷ [])) (key y)) (not-true _ e) in
      let rest = behind_one seen x y (not_from_false _ parts.1) in
      (rest.0, not_from_false _ (or_from _ _ parts.0 (not-true _ rest.1)))

  apart_of : (seen : List X) (x : X) (ys : List X) → list_all (differs (seen ++ x ∷ [])) ys ≡ true → (has same (map key ys) (key x) ≡ false) × (list_all (differs seen) ys ≡ true)
  apart_of seen x [] all = (refl, refl)
  apart_of seen x (y ∷ ys) all =
      let rest = apart_of seen x ys (and_parts _ _ all).1 in
      let both = behind_one seen x y (and_parts _ _ all).0 in
      (or_from _ _ both.0 rest.0, and_from _ _ both.1 rest.1)

  all_apart : (seen xs : List X) → list_all (λ p. differs p.0 p.1) (with_before_from seen xs) ≡ true → (are_apart same (map key xs) ≡ true) × (list_all (differs seen) xs ≡ true)
  all_apart seen [] all = (refl, refl)
  all_apart seen (x ∷ xs) all =
      let rest = all_apart (seen ++ x ∷ []) xs (and_parts _ _ all).1 in
      let both = apart_of seen x xs rest.1 in
      (and_from _ _ (not_from_false _ both.0) rest.0, and_from _ _ (and_parts _ _ all).0 both.1)

-- what each item has with the first one before it
pub with_first : {X : Type 0} (alike : X → X → Bool) (a : X) (seen xs : List X) → list_all (λ p. list_all (λ b. alike b p.1) p.0) (with_before_from (a ∷ seen) xs) ≡ true → list_all (alike a) xs ≡ true
with_first alike a seen [] all = refl
with_first alike a seen (x ∷ xs) all = and_from _ _ (and_parts _ _ (and_parts _ _ all).0).0 (with_first alike a (seen ++ x ∷ []) xs (and_parts _ _ all).1)

same_place : (a b : Option ℕ) → option_eq nat_eq a b ≡ true → a ≡ b
same_place None None e = refl
same_place None (Some y) e = absurd (false≢true e)
same_place (Some x) None e = absurd (false≢true e)
same_place (Some x) (Some y) e = ap Some (eqb-true x y e)

pub same_places : (a b : List (Option ℕ)) → pointwise (option_eq nat_eq) a b ≡ true → a ≡ b
same_places [] [] e = refl
same_places [] (y ∷ ys) e = absurd (false≢true e)
same_places (x ∷ xs) [] e = absurd (false≢true e)
same_places (x ∷ xs) (y ∷ ys) e = ap₂ (λ v vs. v ∷ vs) (same_place x y (and_parts _ _ e).0) (same_places xs ys (and_parts _ _ e).1)

same_tag-equal : (a b : Option ℤ) → option_eq int_eq a b ≡ true → a ≡ b
same_tag-equal None None e = refl
same_tag-equal None (Some y) e = absurd (false≢true e)
same_tag-equal (Some x) None e = absurd (false≢true e)
same_tag-equal (Some x) (Some y) e = ap Some ((Decides-int_eq x y).0 e)

same_tag-itself : (a : Option ℤ) → option_eq int_eq a a ≡ true
same_tag-itself None = refl
same_tag-itself (Some x) = (Decides-int_eq x x).1 refl

-- whether a value is a tag
abbrev is_tag : Value → Option ℤ → Bool
is_tag v None = false
is_tag v (Some n) = is_eq (value_cmp v (Int n))

one_tag : (v : Value) (a b : Option ℤ) → is_tag v a ≡ true → is_tag v b ≡ true → option_eq int_eq a b ≡ true
one_tag v None b e f = absurd (false≢true e)
one_tag v (Some m) None e f = absurd (false≢true f)
one_tag v (Some m) (Some n) e f =
    let same : Int m ≡ Int n = sym (value-equal v (Int m) e) ∙ value-equal v (Int n) f in
    let same' : m ≡ n = cc in
    (Decides-int_eq m n).1 same'

module _ (old : Database) (is : IsDatabase old) where
  -- the first value of a row of an arm with a tag
  tag_value : (arm : Arm) (rows : List (List Value)) (items : List Item) (n : ℤ) → tag_of items ≡ Some n → cell (map (item_over old arm rows) items) 0 ≡ Int n
  tag_value arm rows [] n e = absurd cc
  tag_value arm rows (item.Named (literal (Int m)) name ∷ items) n e = let same : m ≡ n = cc in ap Int same
  tag_value arm rows (item.Named (literal (Text t)) name ∷ items) n e = absurd cc
  tag_value arm rows (item.Named (column r) name ∷ items) n e = absurd cc
  tag_value arm rows (item.Named (negated a) name ∷ items) n e = absurd cc
  tag_value arm rows (item.Named (plus a b) name ∷ items) n e = absurd cc
  tag_value arm rows (item.Named (minus a b) name ∷ items) n e = absurd cc
  tag_value arm rows (item.Named (times a b) name ∷ items) n e = absurd cc
  tag_value arm rows (item.Named (joined a b) name ∷ items) n e = absurd cc
  tag_value arm rows (item.Column r ∷ items) n e = absurd cc
  tag_value arm rows (item.Total total name ∷ items) n e = absurd cc

  abbrev whole_of : Arm → List (List Value)
  whole_of arm = whole_by old arm (arm_kind old arm)

  abbrev pub keeps : Arm → Bool
  keeps arm = list_all is_some (key_items old arm) && two_sided old arm

  alone_once : (arm : Arm) (k : List Value) → keeps arm ≡ true → tally (λ row. same_key k (map (cell row) (key_places old arm))) (whole_of arm) ≤ 1
  alone_once arm k fine =
      once_by old is arm k (λ row. same_key k (map (cell row) (key_places old arm))) (arm_kind old arm) refl (and_parts _ _ fine).1
      (λ rows. ap (same_key k) (key_of_made old arm (and_parts _ _ fine).0 rows))

  -- an arm among several, whose key items are those of the first
  module _ (places : List ℕ) where
    abbrev tagged_key : List Value → List Value
    tagged_key row = cell row 0 ∷ map (cell row) places

    abbrev among : Arm → Bool
    among arm = keeps arm && is_some (tag_of arm.items)

    one_of_tags : (arm : Arm) → key_places old arm ≡ places → (v : Value) (k : List Value) → among arm ≡ true → tally (λ row. same_key (v ∷ k) (tagged_key row)) (whole_of arm) ≤ count_if (is_tag v (tag_of arm.items))
    one_of_tags arm same v k fine = of_tag (tag_of arm.items) refl (and_parts (keeps arm) _ fine).1
      where
        q' : (n : ℤ) → tag_of arm.items ≡ Some n → (rows : List (List Value)) → same_key (v ∷ k) (tagged_key (made old arm rows)) ≡ (is_eq (value_cmp v (Int n)) && same_key k (map (cell (made old arm rows)) places))
        q' n e rows = same_cons v (cell (made old arm rows) 0) k (map (cell (made old arm rows)) places) ∙ ap (λ w. is_eq (value_cmp v w) && same_key k (map (cell (made old arm rows)) places)) (tag_value arm rows arm.items n e)

        of_test : (n : ℤ) → tag_of arm.items ≡ Some n → (b : Bool) → is_eq (value_cmp v (Int n)) ≡ b → tally (λ row. same_key (v ∷ k) (tagged_key row)) (whole_of arm) ≤ count_if b
        of_test n e true at =
            once_by old is arm k (λ row. same_key (v ∷ k) (tagged_key row)) (arm_kind old arm) refl (and_parts _ _ (and_parts (keeps arm) _ fine).0).1
            (λ rows. q' n e rows ∙ ap (λ b. b && same_key k (map (cell (made old arm rows)) places)) at
            ∙ ap (λ ps. same_key k (map (cell (made old arm rows)) ps)) (sym same) ∙ ap (same_key k) (key_of_made old arm (and_parts _ _ (and_parts (keeps arm) _ fine).0).0 rows))
        of_test n e false at =
            let groups = groups_by old arm (arm_kind old arm) (satisfying old arm (table_rows old arm.from) (rows_of_join old arm.join)) in
            let none = tally_never (λ rows. same_key (v ∷ k) (tagged_key (made old arm rows))) (λ rows. q' n e rows ∙ ap (λ b. b && same_key k (map (cell (made old arm rows)) places)) at) groups in
            let same = tally_of_map (λ row. same_key (v ∷ k) (tagged_key row)) (made old arm) groups in
            omega (arith, none, same)

        of_tag : (o : Option ℤ) → tag_of arm.items ≡ o → is_some o ≡ true → tally (λ row. same_key (v ∷ k) (tagged_key row)) (whole_of arm) ≤ count_if (is_tag v (tag_of arm.items))
        of_tag None e some = absurd (false≢true some)
        of_tag (Some n) e some = omega (arith, of_test n e (is_eq (value_cmp v (Int n))) refl, ap (λ o. count_if (is_tag v o)) e)

  pub same_places_itself : (ps : List (Option ℕ)) → pointwise (option_eq nat_eq) ps ps ≡ true
  same_places_itself [] = refl
  same_places_itself (None ∷ ps) = same_places_itself ps
  same_places_itself (Some n ∷ ps) = and_from _ _ (eq-eqb n n refl) (same_places_itself ps)

  abbrev pub alike : Arm → Arm → Bool
  alike a b = pointwise (option_eq nat_eq) (key_items old a) (key_items old b)

  several_once : (a : Arm) (arms : List Arm) → list_all keeps (a ∷ arms) ≡ true → keeps_apart old (a ∷ arms) ≡ true → (k : List Value) → tally (λ row. same_key k (tagged_key (key_places old a) row)) (flat_map whole_of (a ∷ arms)) ≤ 1
  several_once a arms fine apart [] = omega (arith, tally_never (λ row. same_key [] (tagged_key (key_places old a) row)) (λ row. refl) (flat_map whole_of (a ∷ arms)))
  several_once a arms fine apart (v ∷ k) = omega (arith, bounds.0, bounds.1)
    where
      -- no more rows have the key than arms have its tag, and one arm at most has it
      bounds : (tally (λ row. same_key (v ∷ k) (tagged_key (key_places old a) row)) (flat_map whole_of (a ∷ arms)) ≤ tally (λ arm. is_tag v (tag_of arm.items)) (a ∷ arms)) × (tally (λ arm. is_tag v (tag_of arm.items)) (a ∷ arms) ≤ 1)
      bounds =
          let of_tag : Arm → Bool = λ arm. is_tag v (tag_of arm.items) in
          let ok : Arm → Bool = λ arm. among (key_places old a) arm && alike a arm in
          let parts = and_parts (list_all (λ arm. is_by_row (arm_kind old arm) && is_some (tag_of arm.items)) (a ∷ arms) && list_all (λ p. not (has (option_eq int_eq) (map (λ a. tag_of a.items) p.0) (tag_of p.1.items))) (with_before (a ∷ arms))) _ apart in
          let tags = and_parts (list_all (λ arm. is_by_row (arm_kind old arm) && is_some (tag_of arm.items)) (a ∷ arms)) _ parts.0 in
          let all_alike : list_all (alike a) (a ∷ arms) ≡ true = and_from _ _ (same_places_itself (key_items old a)) (with_first alike a [] arms parts.1) in
          let all_among : list_all (among (key_places old a)) (a ∷ arms) ≡ true =
          all_both keeps (λ arm. is_by_row (arm_kind old arm) && is_some (tag_of arm.items)) (among (key_places old a)) (λ arm f t. and_from _ _ f (and_parts (is_by_row (arm_kind old arm)) (is_some (tag_of arm.items)) t).1) (a ∷ arms) fine tags.0 in
          let all_ok : list_all ok (a ∷ arms) ≡ true = all_both (among (key_places old a)) (alike a) ok (λ arm f t. and_from _ _ f t) (a ∷ arms) all_among all_alike in
          let tags_apart = (all_apart (option_eq int_eq) same_tag-equal same_tag-itself (λ a. tag_of a.items) [] (a ∷ arms) tags.1).0 in (
            tally_of_blocks (λ row. same_key (v ∷ k) (tagged_key (key_places old a) row)) of_tag ok whole_of
                (λ arm o. let both = and_parts (among (key_places old a) arm) (alike a arm) o in
                one_of_tags (key_places old a) arm (ap (filter_map (λ k. k)) (sym (same_places (key_items old a) (key_items old arm) both.1))) v k both.0) (a ∷ arms) all_ok,
            once_passes (option_eq int_eq) (λ a. tag_of a.items) of_tag ok (λ x y o o' e e'. one_tag v (tag_of x.items) (tag_of y.items) e e') (a ∷ arms) all_ok tags_apart,
          )

  abbrev keys_of_arms : List Arm → List ℕ
  keys_of_arms arms = filter_map (λ k. k) (let keys = key_items old (first_arm arms) in if nat_lt 1 (length arms) then Some 0 ∷ keys else keys)

  arms_once : (arms : List Arm) → list_all keeps arms ≡ true → (nat_lt (length arms) 2 || keeps_apart old arms) ≡ true → (k : List Value) → tally (λ row. same_key k (map (cell row) (keys_of_arms arms))) (flat_map whole_of arms) ≤ 1
  arms_once [] fine apart k = omega arith
  arms_once (arm ∷ []) fine apart k =
      omega (arith, tally-append (λ row. same_key k (map (cell row) (key_places old arm))) (whole_of arm) [], alone_once arm k (and_parts _ _ fine).0)
  arms_once (a ∷ b ∷ arms) fine apart k =
      let more : nat_lt 1 (length (a ∷ b ∷ arms)) ≡ true = grind (arith, nat_tests) in
      subst (λ c. tally (λ row. same_key k (map (cell row) (filter_map (λ k. k) (if c then Some 0 ∷ key_items old a else key_items old a)))) (flat_map whole_of (a ∷ b ∷ arms)) ≤ 1) (sym more) (several_once a (b ∷ arms) fine (several apart) k)
    where
      several : (nat_lt (length (a ∷ b ∷ arms)) 2 || keeps_apart old (a ∷ b ∷ arms)) ≡ true → keeps_apart old (a ∷ b ∷ arms) ≡ true
      several e =
          let more : nat_lt (length (a ∷ b ∷ arms)) 2 ≡ false = grind (arith, nat_tests) in
          sym (ap (λ c. c || keeps_apart old (a ∷ b ∷ arms)) more) ∙ e

  module _ (t : Target) (none : target_objections old t ≡ []) where
    pub arms_keep : list_all keeps t.arms ≡ true
    arms_keep =
        all_both (inherits_key old) (λ arm. two_sided old arm && alone_in_groups old arm) keeps
        (λ arm i o. and_from _ _ (and_parts (list_all is_some (key_items old arm)) _ i).0 (and_parts (two_sided old arm) _ o).0) t.arms (and_parts _ _ (key_there old t none)).0 (arms_ok old t none)

    -- a key stands in the image once
    pub image_once : (k : List Value) → tally (λ row. same_key k (key_of (target_table old t) row)) (image_of old t) ≤ 1
    image_once k = arms_once t.arms arms_keep (and_parts _ _ (key_there old t none)).1 k

    pub image_apart : are_apart same_key (map (key_of (target_table old t)) (image_of old t)) ≡ true
    image_apart = apart_from_tallies same_key key-itself (map (key_of (target_table old t)) (image_of old t)) (λ k. omega (arith, image_once k, tally_of_map (same_key k) (key_of (target_table old t)) (image_of old t)))
