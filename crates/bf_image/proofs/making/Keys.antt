-- The key that a row of an arm's image has, and the rows that a key can come from.
use Rattle.std.proofs.Common.{◌≡◌, ℕ, ◌+◌, ◌<◌, Bool, true, false, not, ◌&&◌, ◌||◌, nat_lt, nat_eq, List, [], ◌∷◌, ◌++◌, map, length, get_or, position, Option, Some, None, is_some, refl, sym, ap, ap₂, ◌∙◌, inl, inr, arith, is_eq}
use Rattle.std.specs.Prelude.{option_map, pos}
use Rattle.std.specs.List.{list_all, filter_map, cons_option}
use Rattle.std.specs.Option.{option_eq}
use Rattle.std.proofs.lemmas.Bool.Decides.{nat_tests}
use Rattle.std.proofs.lemmas.Bool.{and_parts, and_from, not-true, not_from_false, cases_Bool, false≢true, true≢false, eqb-true}
use Rattle.std.proofs.lemmas.List.{length-map, get_or-map, get_or-append-add}
use Rattle.std.proofs.lemmas.List.Quantifiers.{position-Some}
use Rattle.bf_base.specs.declared.value.Value.{Value}
use Rattle.bf_base.specs.declared.value.Value.TheVariants.{Int}
use Rattle.bf_base.specs.Values.{value_cmp}
use Rattle.bf_base.specs.Lists.{has}
use Rattle.bf_base.specs.Tables.{cell}
use Rattle.bf_tree.specs.declared.raw.Ref.{Ref}
use Rattle.bf_tree.specs.Trees.{literal, column, negated, plus, minus, times, joined}
use Rattle.bf_tree.specs.declared.migration.Item.{Item}
use Rattle.bf_tree.specs.declared.migration.Item.TheVariants as item
use Rattle.bf_tree.specs.declared.migration.Arm.{Arm}
use Rattle.bf_sql.specs.Database.{Database}
use Rattle.bf_sql.specs.Scopes.{Scope, place_of}
use Rattle.bf_sql.specs.migrations.Targets.{arm_scope, arm_key, plain_ref, key_items}
use Rattle.bf_sql.specs.migrations.Images.{item_over, first_row, is_equal_on}
use Rattle.bf_image.proofs.making.Arms.{made, is_one_sided, places_on, value-equal, cell_left}

abbrev some_item : Item
some_item = item.Named (literal (Int (pos 0))) []

same_some : (k : ℕ) (o : Option ℕ) → option_eq nat_eq (Some k) o ≡ true → o ≡ Some k
same_some k None e = absurd (false≢true e)
same_some k (Some j) e = ap Some (sym (eqb-true k j e))

module _ (old : Database) (arm : Arm) where
  abbrev pub place_of_item : Item → Option ℕ
  place_of_item i = option_map (place_of (arm_scope old arm)) (plain_ref i)

  -- a plain item has the value at its place
  plain_value : (rows : List (List Value)) (i : Item) (k : ℕ) → place_of_item i ≡ Some k → item_over old arm rows i ≡ cell (first_row rows) k
  plain_value rows (item.Column ref) k e = let at : place_of (arm_scope old arm) ref ≡ k = cc in ap (cell (first_row rows)) at
  plain_value rows (item.Named (column ref) name) k e = let at : place_of (arm_scope old arm) ref ≡ k = cc in ap (cell (first_row rows)) at
  plain_value rows (item.Named (literal v) name) k e = absurd cc
  plain_value rows (item.Named (negated a) name) k e = absurd cc
  plain_value rows (item.Named (plus a b) name) k e = absurd cc
  plain_value rows (item.Named (minus a b) name) k e = absurd cc
  plain_value rows (item.Named (times a b) name) k e = absurd cc
  plain_value rows (item.Named (joined a b) name) k e = absurd cc
  plain_value rows (item.Total total name) k e = absurd cc

  value_at : (rows : List (List Value)) (items : List Item) (k j : ℕ) → position (option_eq nat_eq (Some k)) (map place_of_item items) ≡ Some j → cell (map (item_over old arm rows) items) j ≡ cell (first_row rows) k
  value_at rows items k j e =
      let at = position-Some (option_eq nat_eq (Some k)) (map place_of_item items) j (place_of_item some_item) e in
      let within : j < length items = omega (arith, at.0, length-map items place_of_item) in
      let here = get_or-map place_of_item items j some_item (place_of_item some_item) within in
      get_or-map (item_over old arm rows) items j some_item (Int (pos 0)) within
      ∙ plain_value rows (get_or items j some_item) k (sym here ∙ same_some k _ at.1)

  -- the items that give the key columns give the key
  inherited : (rows : List (List Value)) (key : List ℕ) → list_all is_some (map (λ k. position (option_eq nat_eq (Some k)) (map place_of_item arm.items)) key) ≡ true
      → map (cell (made old arm rows)) (filter_map (λ k. k) (map (λ k. position (option_eq nat_eq (Some k)) (map place_of_item arm.items)) key)) ≡ map (cell (first_row rows)) key
  inherited rows [] e = refl
  inherited rows (k ∷ key) e =
      let rest = inherited rows key (and_parts _ _ e).1 in
      elim (position (option_eq nat_eq (Some k)) (map place_of_item arm.items)) as (λ o. position (option_eq nat_eq (Some k)) (map place_of_item arm.items) ≡ o → is_some o ≡ true
      → map (cell (made old arm rows)) (cons_option o (filter_map (λ k. k) (map (λ k. position (option_eq nat_eq (Some k)) (map place_of_item arm.items)) key))) ≡ cell (first_row rows) k ∷ map (cell (first_row rows)) key) [
        | None ↦ λ at some. absurd (false≢true some)
        | Some j ↦ λ at some. ap₂ (λ v vs. v ∷ vs) (value_at rows arm.items k j at) rest
      ] refl (and_parts _ _ e).0

  -- the places of the key in the image's rows
  abbrev pub key_places : List ℕ
  key_places = filter_map (λ k. k) (key_items old arm)

  -- a row has the key of the old row, or of the rows, that it is made of
  pub key_of_made : list_all is_some (key_items old arm) ≡ true → (rows : List (List Value)) → map (cell (made old arm rows)) key_places ≡ map (cell (first_row rows)) (arm_key old arm)
  key_of_made there rows = inherited rows (arm_key old arm) there

-- the values at places of the left and of the right table
pub cells_left : (r s : List Value) (w : ℕ) (places : List ℕ) → length r ≡ w → list_all (λ p. nat_lt p w) places ≡ true → map (cell (r ++ s)) places ≡ map (cell r) places
cells_left r s w [] as_long within = refl
cells_left r s w (p ∷ ps) as_long within = ap₂ (λ v vs. v ∷ vs) (cell_left r s w p as_long (and_parts _ _ within).0) (cells_left r s w ps as_long (and_parts _ _ within).1)

pub cells_right : (r s : List Value) (w : ℕ) (places : List ℕ) → length r ≡ w → map (cell (r ++ s)) (map (λ p. w + p) places) ≡ map (cell s) places
cells_right r s w [] as_long = refl
cells_right r s w (p ∷ ps) as_long =
    ap₂ (λ v vs. v ∷ vs) (ap (λ n. cell (r ++ s) (n + p)) (sym as_long) ∙ get_or-append-add r s p (Int (pos 0))) (cells_right r s w ps as_long)

-- lists of equal lengths, each with another behind it
pub apart_again : {X : Type 0} (f g : ℕ → X) (places : List ℕ) (xs ys : List X) → map f places ++ xs ≡ map g places ++ ys → (map f places ≡ map g places) × (xs ≡ ys)
apart_again f g [] xs ys e = (refl, e)
apart_again f g (p ∷ ps) xs ys e =
    let first : f p ≡ g p = cc in
    let rest : map f ps ++ xs ≡ map g ps ++ ys = cc in
    let both = apart_again f g ps xs ys rest in
    (ap₂ (λ v vs. v ∷ vs) first both.0, both.1)

module _ (scope : Scope) (w : ℕ) where
  pub other_side : (x y side : Bool) → ((x && y) || not (x || y)) ≡ false → x ≡ not side → y ≡ side
  other_side true true side one e = absurd (true≢false one)
  other_side false false side one e = absurd (true≢false one)
  other_side true false true one e = absurd (true≢false e)
  other_side true false false one e = refl
  other_side false true true one e = refl
  other_side false true false one e = absurd (false≢true e)

  pub turned_sides : (x y : Bool) → ((x && y) || not (x || y)) ≡ false → ((y && x) || not (y || x)) ≡ false
  turned_sides true true e = e
  turned_sides true false e = e
  turned_sides false true e = e
  turned_sides false false e = e

  module _ (m n : List Value) (side : Bool) (alike : (p : ℕ) → nat_lt p w ≡ side → cell m p ≡ cell n p) where
    -- the equalities carry what the one side has to the other
    across : (a b : ℕ) → ((nat_lt a w && nat_lt b w) || not (nat_lt a w || nat_lt b w)) ≡ false → is_eq (value_cmp (cell m a) (cell m b)) ≡ true → is_eq (value_cmp (cell n a) (cell n b)) ≡ true → nat_lt a w ≡ not side → cell m a ≡ cell n a
    across a b one em en e = value-equal _ _ em ∙ alike b (other_side (nat_lt a w) (nat_lt b w) side one e) ∙ sym (value-equal _ _ en)

    back : (a b : ℕ) → ((nat_lt a w && nat_lt b w) || not (nat_lt a w || nat_lt b w)) ≡ false → is_eq (value_cmp (cell m a) (cell m b)) ≡ true → is_eq (value_cmp (cell n a) (cell n b)) ≡ true → nat_lt b w ≡ not side → cell m b ≡ cell n b
    back a b one em en e = sym (value-equal _ _ em) ∙ alike a (other_side (nat_lt b w) (nat_lt a w) side (turned_sides (nat_lt a w) (nat_lt b w) one) e) ∙ value-equal _ _ en

    carried : (on : List (Ref × Ref)) → list_all (λ e. not (is_one_sided scope w e)) on ≡ true → list_all (is_equal_on scope m) on ≡ true → list_all (is_equal_on scope n) on ≡ true
        → (p : ℕ) → nat_lt p w ≡ not side → has nat_eq (places_on scope w on) p ≡ true → cell m p ≡ cell n p
    carried [] sides em en p at there = absurd (false≢true there)
    carried (e ∷ on) sides em en p at there =
        let a = place_of scope e.0 in
        let b = place_of scope e.1 in
        let one = not-true _ (and_parts _ _ sides).0 in
        elim (cases_Bool (nat_eq p a)) [
          | inl is ↦
              let same = eqb-true p a is in
              ap (cell m) same ∙ across a b one (and_parts _ _ em).0 (and_parts _ _ en).0 (ap (λ q. nat_lt q w) (sym same) ∙ at) ∙ ap (cell n) (sym same)
          | inr other ↦ elim (cases_Bool (nat_eq p b)) [
            | inl is ↦
                let same = eqb-true p b is in
                ap (cell m) same ∙ back a b one (and_parts _ _ em).0 (and_parts _ _ en).0 (ap (λ q. nat_lt q w) (sym same) ∙ at) ∙ ap (cell n) (sym same)
            | inr others ↦ carried on (and_parts _ _ sides).1 (and_parts _ _ em).1 (and_parts _ _ en).1 p at (sym (ap₂ (λ c d. c || (d || has nat_eq (places_on scope w on) p)) other others) ∙ there)
          ]
        ]

    pub carried_all : (ok : ℕ → Bool) → ((p : ℕ) → ok p ≡ true → nat_lt p w ≡ not side) → (on : List (Ref × Ref)) → list_all (λ e. not (is_one_sided scope w e)) on ≡ true → list_all (is_equal_on scope m) on ≡ true → list_all (is_equal_on scope n) on ≡ true
        → (places : List ℕ) → list_all ok places ≡ true → list_all (has nat_eq (places_on scope w on)) places ≡ true → map (cell m) places ≡ map (cell n) places
    carried_all ok at on sides em en [] those there = refl
    carried_all ok at on sides em en (p ∷ ps) those there =
        ap₂ (λ v vs. v ∷ vs) (carried on sides em en p (at p (and_parts _ _ those).0) (and_parts _ _ there).0) (carried_all ok at on sides em en ps (and_parts _ _ those).1 (and_parts _ _ there).1)

pub all_behind : (w : ℕ) (places : List ℕ) → list_all (λ p. not (nat_lt p w)) (map (λ p. w + p) places) ≡ true
all_behind w [] = refl
all_behind w (p ∷ ps) =
    let here : nat_lt (w + p) w ≡ false = grind (arith, nat_tests) in
    and_from _ _ (not_from_false _ here) (all_behind w ps)
