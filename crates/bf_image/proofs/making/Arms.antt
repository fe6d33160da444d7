-- What an arm makes over old tables cut down to granules, and over the whole.
use Rattle.std.proofs.Common.{◌≡◌, ℕ, ◌+◌, ◌-◌, ◌<◌, ◌≤◌, Bool, true, false, not, ◌&&◌, ◌||◌, ◌==◌, nat_lt, nat_le, cond, List, [], ◌∷◌, ◌++◌, map, filter, flat_map, length, slice_range, Option, Some, None, refl, sym, ap, ap₂, ◌∙◌, inl, inr, arith, is_eq}
use Rattle.std.specs.Prelude.{pos, unwrap_or, option_map}
use Rattle.std.specs.List.{list_all, range_with_len}
use Rattle.std.proofs.lemmas.Bool.{and_parts, or_left, or_right, not-true, cases_Bool, false≢true, true≢false, eqb-true, ltb-true}
use Rattle.std.proofs.lemmas.Bool.Decides.{nat_tests}
use Rattle.std.proofs.lemmas.List.{get_or_append_left, get_or-append_right}
use Rattle.std.proofs.lemmas.List.Folds.{flat_map-map}
use Rattle.bf_base.specs.declared.value.Value.{Value}
use Rattle.bf_base.specs.declared.value.Value.TheVariants.{Int}
use Rattle.bf_base.specs.Values.{value_cmp, key_cmp, value_cmp_total, value_cmp-IsAntisymmetric, key_cmp_total, key_cmp-IsAntisymmetric}
use Rattle.bf_base.specs.Lists.{same_key, has, in_order}
use Rattle.bf_base.specs.Tables.{cell}
use Rattle.bf_base.proofs.Items.{SameItems, through, same_items_if}
use Rattle.bf_base.proofs.Order.{symmetric}
use Rattle.bf_base.proofs.Parts.{flat_map-flat_map}
use Rattle.bf_base.specs.Distinct.{distinct}
use Rattle.bf_tree.specs.declared.raw.Ref.{Ref}
use Rattle.bf_tree.specs.Evaluation.{holds_on}
use Rattle.bf_tree.specs.declared.migration.Join.{Join}
use Rattle.bf_tree.specs.declared.migration.Arm.{Arm}
use Rattle.bf_tree.specs.declared.plan.ArmKind.{ArmKind}
use Rattle.bf_tree.specs.declared.plan.ArmKind.TheVariants.{ByFrom, ByJoin, ByPair, ByGroup}
use Rattle.bf_sql.specs.Database.{Database, table_rows}
use Rattle.bf_sql.specs.Conditions.{condition_of}
use Rattle.bf_sql.specs.Scopes.{Scope, place_of, read_in}
use Rattle.bf_sql.specs.migrations.Targets.{arm_scope, width, equalities}
use Rattle.bf_sql.specs.migrations.Images.{is_equal_on, item_over, group_value, groups_by, matches_of_join, satisfying, rows_of_join}
use Rattle.bf_sql.specs.migrations.Granules.{left_value, right_value, from_with, join_with, anchor_values}
use Rattle.bf_index.proofs.Bags.{blocks_equal, blocks_filtered, in_turn}
use Rattle.bf_index.proofs.Values.{by_value, values_in_turn, values_among, pairs_by_value, pairs_by_right, same-equal, same-itself, values_in_order-apart, values_in_order-has}

pub value-equal : (v w : Value) → is_eq (value_cmp v w) ≡ true → v ≡ w
value-equal v w e = same-equal value_cmp_total value_cmp-IsAntisymmetric v w e

pub key-equal : (v w : List Value) → same_key v w ≡ true → v ≡ w
key-equal v w e = same-equal key_cmp_total key_cmp-IsAntisymmetric v w e

pub key-itself : (v : List Value) → same_key v v ≡ true
key-itself v = same-itself key_cmp_total key_cmp-IsAntisymmetric v

pub key-symmetric : (v w : List Value) → same_key v w ≡ same_key w v
key-symmetric = symmetric key_cmp_total

-- in a row of two tables side by side
pub cell_left : (r s : List Value) (w p : ℕ) → length r ≡ w → nat_lt p w ≡ true → cell (r ++ s) p ≡ cell r p
cell_left r s w p as_long less =
    let below : p < w = ltb-true p w less in
    let within : p < length r = omega arith in
    get_or_append_left r s (Int (pos 0)) p within

pub cell_right : (r s : List Value) (w p : ℕ) → length r ≡ w → nat_lt p w ≡ false → cell (r ++ s) p ≡ cell s (p - w)
cell_right r s w p as_long more =
    let above : w ≤ p = grind (arith, nat_tests) in
    get_or-append_right r s w p _ as_long above

pub singles : {X Y : Type 0} (made : List X → Y) (p : X → Bool) (xs : List X) → map made (map (λ x. x ∷ []) (filter p xs)) ≡ flat_map (λ x. cond (p x) (made (x ∷ []) ∷ []) []) xs
singles made p [] = refl
singles made p (x ∷ xs) = elim (p x) as (λ b. map made (map (λ x. x ∷ []) (cond b (x ∷ filter p xs) (filter p xs))) ≡ cond b (made (x ∷ []) ∷ []) [] ++ flat_map (λ x. cond (p x) (made (x ∷ []) ∷ []) []) xs) [
  | true ↦ ap (λ zs. made (x ∷ []) ∷ zs) (singles made p xs)
  | false ↦ singles made p xs
]

pub filters_exchanged : {X : Type 0} (p q : X → Bool) (xs : List X) → filter p (filter q xs) ≡ filter q (filter p xs)
filters_exchanged p q [] = refl
filters_exchanged p q (x ∷ xs) = grind (arith, filters_exchanged p q xs)

module _ (scope : Scope) (w : ℕ) where
  -- whether an equality has both refs in one table
  abbrev pub is_one_sided : Ref × Ref → Bool
  is_one_sided pair =
      (nat_lt (place_of scope pair.0) w && nat_lt (place_of scope pair.1) w) || not (nat_lt (place_of scope pair.0) w || nat_lt (place_of scope pair.1) w)

  abbrev pub places_on : List (Ref × Ref) → List ℕ
  places_on on = flat_map (λ e. place_of scope e.0 ∷ place_of scope e.1 ∷ []) on

  on_step : (r s : List Value) (a b : ℕ) (ls rs : List Value) (rest : List ℕ) → length r ≡ w → ls ≡ rs → is_eq (value_cmp (cell (r ++ s) a) (cell (r ++ s) b)) ≡ true
      → map (cell r) (filter (λ p. nat_lt p w) rest) ≡ ls → map (λ p. cell s (p - w)) (filter (λ p. nat_le w p) rest) ≡ rs
      → (x y : Bool) → nat_lt a w ≡ x → nat_lt b w ≡ y → ((x && y) || not (x || y)) ≡ false
      → map (cell r) (filter (λ p. nat_lt p w) (a ∷ b ∷ rest)) ≡ map (λ p. cell s (p - w)) (filter (λ p. nat_le w p) (a ∷ b ∷ rest))
  on_step r s a b ls rs rest as_long same eq el er true true ea eb one = absurd (true≢false one)
  on_step r s a b ls rs rest as_long same eq el er false false ea eb one = absurd (true≢false one)
  on_step r s a b ls rs rest as_long same eq el er true false ea eb one =
      let na : nat_le w a ≡ false = grind (arith, nat_tests) in
      let nb : nat_le w b ≡ true = grind (arith, nat_tests) in
      let left = cell_left r s w a as_long ea in
      let right = cell_right r s w b as_long eb in
      let e : cell r a ≡ cell s (b - w) = sym left ∙ value-equal _ _ eq ∙ right in
      rw (ea, eb, na, nb) (ap₂ (λ v vs. v ∷ vs) e (el ∙ same ∙ sym er))
  on_step r s a b ls rs rest as_long same eq el er false true ea eb one =
      let na : nat_le w a ≡ true = grind (arith, nat_tests) in
      let nb : nat_le w b ≡ false = grind (arith, nat_tests) in
      let left = cell_left r s w b as_long eb in
      let right = cell_right r s w a as_long ea in
      let e : cell r b ≡ cell s (a - w) = sym left ∙ sym (value-equal _ _ eq) ∙ right in
      rw (ea, eb, na, nb) (ap₂ (λ v vs. v ∷ vs) e (el ∙ same ∙ sym er))

  -- rows that satisfy the equalities have the same values in the joined columns
  pub on_values : (r s : List Value) (on : List (Ref × Ref)) → length r ≡ w → list_all (λ e. not (is_one_sided e)) on ≡ true → list_all (is_equal_on scope (r ++ s)) on ≡ true
      → map (cell r) (filter (λ p. nat_lt p w) (places_on on)) ≡ map (λ p. cell s (p - w)) (filter (λ p. nat_le w p) (places_on on))
  on_values r s [] as_long sides equal = refl
  on_values r s (e ∷ on) as_long sides equal =
      let rest = on_values r s on as_long (and_parts _ _ sides).1 (and_parts _ _ equal).1 in
      on_step r s (place_of scope e.0) (place_of scope e.1) _ _ (places_on on) as_long rest (and_parts _ _ equal).0 refl refl (nat_lt (place_of scope e.0) w) (nat_lt (place_of scope e.1) w) refl refl (not-true _ (and_parts _ _ sides).0)

module _ (old : Database) (arm : Arm) where
  abbrev pub passes : List Value → Bool
  passes row = holds_on (read_in (arm_scope old arm) row) (condition_of arm.cond)

  -- a row of the image, out of the rows that it is made of
  abbrev pub made : List (List Value) → List Value
  made rows = map (item_over old arm rows) arm.items

  -- what comes of one row that satisfies the join
  abbrev pub of_match : List Value → List (List Value)
  of_match row = cond (passes row) (made (row ∷ []) ∷ []) []

  abbrev pub rows_by : ArmKind → List (List Value) → List (List Value) → List (List Value)
  rows_by kind from join = map made (groups_by old arm kind (satisfying old arm from join))

  -- what comes of a pair side by side
  abbrev pub of_pair : Join → List Value → List (List Value)
  of_pair j row = cond (list_all (is_equal_on (arm_scope old arm) row) j.on) (of_match row) []

  -- what comes of a row of FROM
  abbrev pub of_from : Option Join → List (List Value) → List Value → List (List Value)
  of_from None join r = of_match r
  of_from (Some j) join r = flat_map (λ s. of_pair j (r ++ s)) join

  pub from_form : (j : Option Join) (from join : List (List Value)) → flat_map of_match (matches_of_join old arm from join j) ≡ flat_map (of_from j join) from
  from_form None from join = blocks_equal of_match of_match (λ r. refl) from
  from_form (Some j) from join =
      blocks_filtered of_match (λ row. list_all (is_equal_on (arm_scope old arm) row) j.on) (flat_map (λ r. map (λ s. r ++ s) join) from)
      ∙ flat_map-flat_map (of_pair j) (λ r. map (λ s. r ++ s) join) from
      ∙ blocks_equal (λ r. flat_map (of_pair j) (map (λ s. r ++ s) join)) (λ r. flat_map (λ s. of_pair j (r ++ s)) join) (λ r. flat_map-map (of_pair j) (λ s. r ++ s) join) from

  -- an arm that makes a row of each match
  pub single_form : (from join : List (List Value)) → map made (map (λ row. row ∷ []) (satisfying old arm from join)) ≡ flat_map (of_from arm.join join) from
  single_form from join = singles made passes (matches_of_join old arm from join arm.join) ∙ from_form arm.join from join

  pub from_in_turn : (from join : List (List Value)) → flat_map (λ p. rows_by ByFrom (slice_range from p (p + 1)) join) (range_with_len 0 (length from)) ≡ rows_by ByFrom from join
  from_in_turn from join =
      blocks_equal (λ p. rows_by ByFrom (slice_range from p (p + 1)) join) (λ p. flat_map (of_from arm.join join) (slice_range from p (p + 1))) (λ p. single_form (slice_range from p (p + 1)) join) (range_with_len 0 (length from))
      ∙ in_turn (of_from arm.join join) from 0 (length from) (omega arith)
      ∙ sym (single_form from join)

  -- the joined values of both sides, each once
  abbrev pub pair_values : List (List Value)
  pair_values = in_order key_cmp (λ v. v) (distinct same_key (anchor_values old arm ByPair))

  abbrev pub fine_row : List Value → Bool
  fine_row r = (length r == width old arm) && has same_key pair_values (left_value old arm r)

  module _ (j : Join) (joined : arm.join ≡ Some j) where
    abbrev pair_form : List (List Value) → List (List Value) → List (List Value)
    pair_form from join = flat_map (λ r. flat_map (λ s. of_pair j (r ++ s)) join) from

    pub as_pairs : (from join : List (List Value)) → map made (map (λ row. row ∷ []) (satisfying old arm from join)) ≡ pair_form from join
    as_pairs from join = single_form from join ∙ ap (λ o. flat_map (of_from o join) from) joined

    pub join_in_turn : (from join : List (List Value)) → SameItems (flat_map (λ p. rows_by ByJoin from (slice_range join p (p + 1))) (range_with_len 0 (length join))) (rows_by ByJoin from join)
    join_in_turn from join =
        through (same_items_if _ _ (blocks_equal (λ p. rows_by ByJoin from (slice_range join p (p + 1))) (λ p. pair_form from (slice_range join p (p + 1))) (λ p. as_pairs from (slice_range join p (p + 1))) (range_with_len 0 (length join))))
        (through (pairs_by_right (λ r s. of_pair j (r ++ s)) from join) (same_items_if _ _ (sym (as_pairs from join))))

    pub pairs_in_turn : list_all (λ e. not (is_one_sided (arm_scope old arm) (width old arm) e)) (equalities arm) ≡ true
        → list_all fine_row (table_rows old arm.from) ≡ true
        → SameItems (flat_map (λ v. rows_by ByPair (from_with old arm ByPair v) (join_with old arm v)) pair_values) (rows_by ByPair (table_rows old arm.from) (rows_of_join old arm.join))
    pairs_in_turn sides fine =
        let from = table_rows old arm.from in
        let join = rows_of_join old arm.join in
        let cut = blocks_equal (λ v. rows_by ByPair (from_with old arm ByPair v) (join_with old arm v)) (λ v. pair_form (from_with old arm ByPair v) (join_with old arm v)) (λ v. as_pairs (from_with old arm ByPair v) (join_with old arm v)) pair_values in
        through (same_items_if _ _ cut)
        (through
        (pairs_by_value same_key key-symmetric key-equal key-itself (left_value old arm) (right_value old arm) fine_row (λ r s. of_pair j (r ++ s)) nothing pair_values from join
        (values_in_order-apart key_cmp_total key_cmp-IsAntisymmetric (anchor_values old arm ByPair)) (λ r e. (and_parts _ _ e).1) fine)
        (same_items_if _ _ (sym (as_pairs from join))))
      where
        on_same : equalities arm ≡ j.on
        on_same = ap (λ (o : Option Join). unwrap_or (option_map (λ j. j.on) o) []) joined

        nothing : (r s : List Value) → fine_row r ≡ true → same_key (left_value old arm r) (right_value old arm s) ≡ false → of_pair j (r ++ s) ≡ []
        nothing r s fine other = elim (cases_Bool (list_all (is_equal_on (arm_scope old arm) (r ++ s)) j.on)) [
          | inl on ↦
              let as_long = eqb-true (length r) (width old arm) (and_parts _ _ fine).0 in
              let sides' = ap (list_all (λ e. not (is_one_sided (arm_scope old arm) (width old arm) e))) (sym on_same) ∙ sides in
              let e = on_values (arm_scope old arm) (width old arm) r s j.on as_long sides' on in
              let e' : left_value old arm r ≡ right_value old arm s = ap (λ es. map (cell r) (filter (λ p. nat_lt p (width old arm)) (places_on (arm_scope old arm) (width old arm) es))) on_same ∙ e
              ∙ sym (ap (λ es. map (λ p. cell s (p - width old arm)) (filter (λ p. nat_le (width old arm) p) (places_on (arm_scope old arm) (width old arm) es))) on_same) in
              absurd (false≢true (sym other ∙ ap (same_key (left_value old arm r)) (sym e') ∙ key-itself (left_value old arm r)))
          | inr off ↦ ap (λ b. cond b (of_match (r ++ s)) []) off
        ]

  -- the values of the group columns, each once
  abbrev pub group_values : List (List Value)
  group_values = in_order key_cmp (λ v. v) (distinct same_key (anchor_values old arm ByGroup))

  -- a value of some rows is one of all
  pub some_of_all : (k : List Value) (p : List Value → Bool) (rows : List (List Value)) → has same_key (map (group_value old arm) (filter p rows)) k ≡ true → has same_key (map (group_value old arm) rows) k ≡ true
  some_of_all k p (row ∷ rows) there = elim (p row) as (λ b. has same_key (map (group_value old arm) (cond b (row ∷ filter p rows) (filter p rows))) k ≡ true → (same_key k (group_value old arm row) || has same_key (map (group_value old arm) rows) k) ≡ true) [
    | true ↦ λ e. elim (cases_Bool (same_key k (group_value old arm row))) [
      | inl is ↦ or_left _ _ is
      | inr other ↦ or_right _ _ (some_of_all k p rows (sym (ap (λ b. b || has same_key (map (group_value old arm) (filter p rows)) k) other) ∙ e))
    ]
    | false ↦ λ e. or_right _ _ (some_of_all k p rows e)
  ] there
  some_of_all k p [] there = there

  pub groups_in_turn : arm.join ≡ None → SameItems (flat_map (λ v. rows_by ByGroup (from_with old arm ByGroup v) (join_with old arm v)) group_values) (rows_by ByGroup (table_rows old arm.from) (rows_of_join old arm.join))
  groups_in_turn alone =
      let from = table_rows old arm.from in
      let satisfied = filter passes from in
      let all_of : (a b : List (List Value)) → satisfying old arm a b ≡ filter passes a = λ a b. ap (λ o. filter passes (matches_of_join old arm a b o)) alone in
      let of : List (List Value) → List (List Value) = by_value same_key key-symmetric key-equal key-itself (group_value old arm) made in
      let one : (v : List Value) → rows_by ByGroup (from_with old arm ByGroup v) (join_with old arm v) ≡ of (filter (λ row. same_key v (group_value old arm row)) satisfied) = λ v.
      ap of (all_of (from_with old arm ByGroup v) (join_with old arm v) ∙ filters_exchanged passes (λ row. same_key v (group_value old arm row)) from) in
      through (same_items_if _ _ (blocks_equal (λ v. rows_by ByGroup (from_with old arm ByGroup v) (join_with old arm v)) (λ v. of (filter (λ row. same_key v (group_value old arm row)) satisfied)) one group_values))
      (through
      (values_in_turn same_key key-symmetric key-equal key-itself (group_value old arm) made satisfied group_values
      (values_among key_cmp_total key_cmp-IsAntisymmetric (map (group_value old arm) satisfied) group_values
      (values_in_order-apart key_cmp_total key_cmp-IsAntisymmetric (anchor_values old arm ByGroup))
      (λ k there. values_in_order-has key_cmp_total key_cmp-IsAntisymmetric (anchor_values old arm ByGroup) k ∙ some_of_all k passes from there)))
      (same_items_if _ _ (ap of (sym (all_of from (rows_of_join old arm.join))))))
