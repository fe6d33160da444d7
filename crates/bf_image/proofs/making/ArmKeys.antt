-- An arm's image has each key once.
use Rattle.std.proofs.Common.{◌≡◌, ℕ, ◌+◌, ◌≤◌, Bool, true, false, not, ◌&&◌, ◌||◌, ◌==◌, nat_lt, nat_eq, cond, List, [], ◌∷◌, ◌++◌, map, filter, flat_map, length, Option, Some, None, is_some, refl, sym, ap, ap₂, ◌∙◌, arith}
use Rattle.std.specs.Prelude.{option_map, unwrap_or}
use Rattle.std.specs.List.{list_all}
use Rattle.std.proofs.lemmas.Bool.{and_parts, not-true, false≢true, eqb-true}
use Rattle.std.proofs.lemmas.List.{append-nil, map-append}
use Rattle.std.proofs.lemmas.Simd.{map-map}
use Rattle.bf_base.specs.declared.value.Value.{Value}
use Rattle.bf_base.specs.Values.{key_cmp_total}
use Rattle.bf_base.specs.Lists.{same_name, same_key, has}
use Rattle.bf_base.specs.Tables.{cell, key_of}
use Rattle.bf_base.proofs.Apart.{are_apart, apart_from_rises}
use Rattle.bf_base.proofs.Parts.{list_all_always}
use Rattle.bf_base.specs.Distinct.{distinct}
use Rattle.bf_tree.specs.declared.migration.Join.{Join}
use Rattle.bf_tree.specs.declared.migration.Arm.{Arm}
use Rattle.bf_tree.specs.declared.plan.ArmKind.{ArmKind}
use Rattle.bf_tree.specs.declared.plan.ArmKind.TheVariants.{ByFrom, ByJoin, ByPair, ByGroup}
use Rattle.bf_sql.specs.Database.{Database, Stored, IsDatabase, stored_at, table_at, table_rows, is_keyed, is_within, no_table}
use Rattle.bf_sql.specs.Scopes.{place_of}
use Rattle.bf_sql.specs.migrations.Targets.{kind_by, key_by, arm_kind, arm_scope, width, from_key, join_key, on_places, equalities, names_of_join}
use Rattle.bf_sql.specs.migrations.Images.{is_equal_on, first_row, group_value, satisfying, rows_of_join}
use Rattle.bf_image.proofs.items.Lists.{all_so, all_found, has_own}
use Rattle.bf_index.proofs.Bags.{tally, tally-same_items, turned_round}
use Rattle.bf_index.proofs.Values.{distinct-apart, distinct-has}
use Rattle.bf_image.proofs.making.Arms.{passes, made, of_match, of_pair, of_from, rows_by, single_form, as_pairs, is_one_sided, places_on, key-equal, key-itself, key-symmetric, cell_left, cell_right}
use Rattle.bf_image.proofs.cutting.Parts.{if_there, whole_by}
use Rattle.bf_image.proofs.making.Unobjected.{joins_by_pair, as_wide, two_sided}
use Rattle.bf_image.proofs.making.Keys.{cells_left, cells_right, apart_again, carried_all, all_behind}
use Rattle.bf_image.proofs.items.Once.{count_if, tally_of_blocks, tally_of_map, tally_of_apart, once_in_pairs}

same_from_equal : (a b : List Value) → a ≡ b → same_key a b ≡ true
same_from_equal a b e = ap (same_key a) (sym e) ∙ key-itself a

pub from_with_join : (g a b : Bool) → kind_by g true a b ≡ ByFrom → a ≡ true
from_with_join true a b e = absurd cc
from_with_join false true b e = refl
from_with_join false false true e = absurd cc
from_with_join false false false e = absurd cc

pub join_has_from : (g j a b : Bool) → kind_by g j a b ≡ ByJoin → (j ≡ true) × (b ≡ true)
join_has_from true j a b e = absurd cc
join_has_from false false a b e = absurd cc
join_has_from false true true b e = absurd cc
join_has_from false true false true e = (refl, refl)
join_has_from false true false false e = absurd cc

tally_less : {X : Type 0} (p q ok : X → Bool) → ((x : X) → ok x ≡ true → p x ≡ q x) → (xs : List X) → list_all ok xs ≡ true → tally p xs ≤ tally q xs
tally_less p q ok one [] all = omega arith
tally_less p q ok one (x ∷ xs) all = omega (arith, ap count_if (one x (and_parts _ _ all).0), tally_less p q ok one xs (and_parts _ _ all).1)

-- the first row of those with a value
module _ (value : List Value → List Value) where
  pub first_with : (v : List Value) (rows : List (List Value)) → has same_key (map value rows) v ≡ true → value (first_row (filter (λ m. same_key v (value m)) rows)) ≡ v
  first_with v [] there = absurd (false≢true there)
  first_with v (m ∷ rows) there = of (same_key v (value m)) refl (first_with v rows)
    where
      of : (b : Bool) → same_key v (value m) ≡ b → (has same_key (map value rows) v ≡ true → value (first_row (filter (λ m. same_key v (value m)) rows)) ≡ v)
          → value (first_row (cond (same_key v (value m)) (m ∷ filter (λ m. same_key v (value m)) rows) (filter (λ m. same_key v (value m)) rows))) ≡ v
      of true at rest = ap (λ b. value (first_row (cond b (m ∷ filter (λ m. same_key v (value m)) rows) (filter (λ m. same_key v (value m)) rows)))) at ∙ sym (key-equal v (value m) at)
      of false at rest = ap (λ b. value (first_row (cond b (m ∷ filter (λ m. same_key v (value m)) rows) (filter (λ m. same_key v (value m)) rows)))) at
          ∙ rest (sym (ap (λ b. b || has same_key (map value rows) v) at) ∙ there)

module _ (old : Database) (is : IsDatabase old) where
  abbrev pub key_in : List ℕ → List Value → List Value
  key_in name row = map (cell row) (table_at old name).key

  -- the rows of a table have different keys
  pub keys_apart : (name : List ℕ) → are_apart same_key (map (key_in name) (table_rows old name)) ≡ true
  keys_apart name = of (stored_at old name) refl
    where
      of : (o : Option Stored) → stored_at old name ≡ o
          → are_apart same_key (map (λ row. map (cell row) (unwrap_or (option_map (λ s. s.table) o) no_table).key) (unwrap_or (option_map (λ s. s.rows) o) [])) ≡ true
      of None e = refl
      of (Some s) e = apart_from_rises key_cmp_total (map (key_of s.table) s.rows) (all_found is_keyed (λ s. same_name s.table.name name) old.tables s is.rows_by_key e)

  pub keys_within : (name : List ℕ) → list_all (λ p. nat_lt p (length (table_at old name).columns)) (table_at old name).key ≡ true
  keys_within name = of (stored_at old name) refl
    where
      of : (o : Option Stored) → stored_at old name ≡ o
          → list_all (λ p. nat_lt p (length (unwrap_or (option_map (λ s. s.table) o) no_table).columns)) (unwrap_or (option_map (λ s. s.table) o) no_table).key ≡ true
      of None e = refl
      of (Some s) e = all_found (λ s. is_within s.table s.table.key) (λ s. same_name s.table.name name) old.tables s is.keys_within e

  module _ (arm : Arm) (k : List Value) (q : List Value → Bool) where
    abbrev pub Judges : ArmKind → Type 0
    Judges kind = (rows : List (List Value)) → q (made old arm rows) ≡ same_key k (map (cell (first_row rows)) (key_by old arm kind))

    abbrev asks : ArmKind → List Value → Bool
    asks kind m = same_key k (map (cell m) (key_by old arm kind))

    match_tally : (kind : ArmKind) → Judges kind → (m : List Value) → tally q (of_match old arm m) ≤ count_if (asks kind m)
    match_tally kind judges m = of (passes old arm m)
      where
        of : (b : Bool) → tally q (cond b (made old arm (m ∷ []) ∷ []) []) ≤ count_if (asks kind m)
        of true = omega (arith, ap count_if (judges (m ∷ [])))
        of false = omega arith

    pair_tally : (kind : ArmKind) → Judges kind → (j : Join) (m : List Value) → tally q (of_pair old arm j m) ≤ count_if (list_all (is_equal_on (arm_scope old arm) m) j.on && asks kind m)
    pair_tally kind judges j m = of (list_all (is_equal_on (arm_scope old arm) m) j.on)
      where
        of : (b : Bool) → tally q (cond b (of_match old arm m) []) ≤ count_if (b && asks kind m)
        of true = match_tally kind judges m
        of false = omega arith

    abbrev from : List (List Value)
    from = table_rows old arm.from

    from_alone : Judges ByFrom → arm.join ≡ None → tally q (whole_by old arm ByFrom) ≤ 1
    from_alone judges alone =
        let form : whole_by old arm ByFrom ≡ flat_map (of_match old arm) from = single_form old arm from (rows_of_join old arm.join) ∙ ap (λ o. flat_map (of_from old arm o (rows_of_join old arm.join)) from) alone in
        let less = tally_of_blocks q (asks ByFrom) (λ m. true) (of_match old arm) (λ m fine. match_tally ByFrom judges m) from (list_all_always from) in
        let once = tally_of_apart same_key key-equal k (map (key_in arm.from) from) (keys_apart arm.from) in
        omega (arith, less, once, ap (tally q) form, tally_of_map (same_key k) (key_in arm.from) from)

    module _ (j : Join) (joined : arm.join ≡ Some j) (sided : two_sided old arm ≡ true) where
      abbrev join : List (List Value)
      join = table_rows old j.table

      abbrev on_pair : List Value → Bool
      on_pair m = list_all (is_equal_on (arm_scope old arm) m) j.on

      same_on : equalities arm ≡ j.on
      same_on = ap (λ (o : Option Join). unwrap_or (option_map (λ j. j.on) o) []) joined

      sides : list_all (λ e. not (is_one_sided (arm_scope old arm) (width old arm) e)) j.on ≡ true
      sides = ap (list_all (λ e. not (is_one_sided (arm_scope old arm) (width old arm) e))) (sym same_on) ∙ sided

      names : names_of_join arm ≡ j.table ∷ []
      names = ap (λ (o : Option Join). unwrap_or (option_map (λ j. j.table ∷ []) o) []) joined

      pub join_key_is : join_key old arm ≡ map (λ p. width old arm + p) (table_at old j.table).key
      join_key_is = ap (flat_map (λ name. map (λ p. width old arm + p) (table_at old name).key)) names ∙ append-nil (map (λ p. width old arm + p) (table_at old j.table).key)

      places_are : on_places old arm ≡ places_on (arm_scope old arm) (width old arm) j.on
      places_are = ap (places_on (arm_scope old arm) (width old arm)) same_on

      form : (kind : ArmKind) → rows_by old arm kind from (rows_of_join old arm.join) ≡ map (made old arm) (map (λ row. row ∷ []) (satisfying old arm from (rows_of_join old arm.join)))
          → whole_by old arm kind ≡ flat_map (λ r. flat_map (λ s. of_pair old arm j (r ++ s)) join) from
      form kind e = e ∙ as_pairs old arm j joined from (rows_of_join old arm.join) ∙ ap (λ rows. flat_map (λ r. flat_map (λ s. of_pair old arm j (r ++ s)) rows) from) (ap (rows_of_join old) joined)

      abbrev wide : List Value → Bool
      wide r = length r == width old arm

      as_long : (r : List Value) → wide r ≡ true → length r ≡ width old arm
      as_long r e = eqb-true (length r) (width old arm) e

      left_key : (r s : List Value) → wide r ≡ true → map (cell (r ++ s)) (from_key old arm) ≡ key_in arm.from r
      left_key r s e = cells_left r s (width old arm) (from_key old arm) (as_long r e) (keys_within arm.from)

      right_key : (r s : List Value) → wide r ≡ true → map (cell (r ++ s)) (join_key old arm) ≡ key_in j.table s
      right_key r s e = ap (map (cell (r ++ s))) join_key_is ∙ cells_right r s (width old arm) (table_at old j.table).key (as_long r e)

      -- ON with the whole key of JOIN gives one row of it
      fixes_right : list_all (has nat_eq (on_places old arm)) (join_key old arm) ≡ true → (r s s' : List Value) → wide r ≡ true → on_pair (r ++ s) ≡ true → on_pair (r ++ s') ≡ true → key_in j.table s ≡ key_in j.table s'
      fixes_right has_key r s s' e on on' =
          let there : list_all (has nat_eq (places_on (arm_scope old arm) (width old arm) j.on)) (map (λ p. width old arm + p) (table_at old j.table).key) ≡ true =
          ap₂ (λ ps ks. list_all (has nat_eq ps) ks) (sym places_are) (sym join_key_is) ∙ has_key in
          let same = carried_all (arm_scope old arm) (width old arm) (r ++ s) (r ++ s') true (λ p less. cell_left r s (width old arm) p (as_long r e) less ∙ sym (cell_left r s' (width old arm) p (as_long r e) less))
          (λ p. not (nat_lt p (width old arm))) (λ p more. not-true _ more) j.on sides on on' (map (λ p. width old arm + p) (table_at old j.table).key) (all_behind (width old arm) (table_at old j.table).key) there in
          sym (cells_right r s (width old arm) (table_at old j.table).key (as_long r e)) ∙ same ∙ cells_right r s' (width old arm) (table_at old j.table).key (as_long r e)

      -- and with the whole key of FROM one row of that
      fixes_left : list_all (has nat_eq (on_places old arm)) (from_key old arm) ≡ true → (r r' s : List Value) → wide r ≡ true → wide r' ≡ true → on_pair (r ++ s) ≡ true → on_pair (r' ++ s) ≡ true → key_in arm.from r ≡ key_in arm.from r'
      fixes_left has_key r r' s e e' on on' =
          let there : list_all (has nat_eq (places_on (arm_scope old arm) (width old arm) j.on)) (from_key old arm) ≡ true = ap (λ ps. list_all (has nat_eq ps) (from_key old arm)) (sym places_are) ∙ has_key in
          let same = carried_all (arm_scope old arm) (width old arm) (r ++ s) (r' ++ s) false (λ p more. cell_right r s (width old arm) p (as_long r e) more ∙ sym (cell_right r' s (width old arm) p (as_long r' e') more))
          (λ p. nat_lt p (width old arm)) (λ p less. less) j.on sides on on' (from_key old arm) (keys_within arm.from) there in
          sym (left_key r s e) ∙ same ∙ left_key r' s e'

      abbrev asked : ArmKind → List Value → List Value → Bool
      asked kind r s = on_pair (r ++ s) && asks kind (r ++ s)

      its_on : (kind : ArmKind) (r s : List Value) → asked kind r s ≡ true → on_pair (r ++ s) ≡ true
      its_on kind r s p = (and_parts (on_pair (r ++ s)) (asks kind (r ++ s)) p).0

      its_key : (kind : ArmKind) (r s : List Value) → asked kind r s ≡ true → k ≡ map (cell (r ++ s)) (key_by old arm kind)
      its_key kind r s p = key-equal k (map (cell (r ++ s)) (key_by old arm kind)) (and_parts (on_pair (r ++ s)) (asks kind (r ++ s)) p).1

      from_joined : Judges ByFrom → list_all (has nat_eq (on_places old arm)) (join_key old arm) ≡ true → tally q (whole_by old arm ByFrom) ≤ 1
      from_joined judges has_key =
          omega (arith, once, ap (tally q) (form ByFrom refl))
        where
          once : tally q (flat_map (λ r. flat_map (λ s. of_pair old arm j (r ++ s)) join) from) ≤ 1
          once =
              once_in_pairs same_key same_key (key_in arm.from) (key_in j.table) wide (λ s. true) (λ r s. of_pair old arm j (r ++ s)) q (asked ByFrom)
              (λ r s e o. pair_tally ByFrom judges j (r ++ s))
              (λ r r' s s' e e' o o' p p'. same_from_equal _ _ (sym (left_key r s e) ∙ sym (its_key ByFrom r s p) ∙ its_key ByFrom r' s' p' ∙ left_key r' s' e'))
              (λ r s s' e o o' p p'. same_from_equal _ _ (fixes_right has_key r s s' e (its_on ByFrom r s p) (its_on ByFrom r s' p')))
              from join (as_wide old is arm arm.from) (list_all_always join) (keys_apart arm.from) (keys_apart j.table)

      join_once : Judges ByJoin → list_all (has nat_eq (on_places old arm)) (from_key old arm) ≡ true → tally q (whole_by old arm ByJoin) ≤ 1
      join_once judges has_key =
          omega (arith, once, ap (tally q) (form ByJoin refl), tally-same_items q (turned_round (λ r s. of_pair old arm j (r ++ s)) from join))
        where
          once : tally q (flat_map (λ s. flat_map (λ r. of_pair old arm j (r ++ s)) from) join) ≤ 1
          once =
              once_in_pairs same_key same_key (key_in j.table) (key_in arm.from) (λ s. true) wide (λ s r. of_pair old arm j (r ++ s)) q (λ s r. asked ByJoin r s)
              (λ s r o e. pair_tally ByJoin judges j (r ++ s))
              (λ s s' r r' o o' e e' p p'. same_from_equal _ _ (sym (right_key r s e) ∙ sym (its_key ByJoin r s p) ∙ its_key ByJoin r' s' p' ∙ right_key r' s' e'))
              (λ s r r' o e e' p p'. same_from_equal _ _ (fixes_left has_key r r' s e e' (its_on ByJoin r s p) (its_on ByJoin r' s p')))
              join from (list_all_always join) (as_wide old is arm arm.from) (keys_apart j.table) (keys_apart arm.from)

      both_keys : (r s : List Value) → wide r ≡ true → map (cell (r ++ s)) (from_key old arm ++ join_key old arm) ≡ key_in arm.from r ++ key_in j.table s
      both_keys r s e = map-append (cell (r ++ s)) (from_key old arm) (join_key old arm) ∙ ap₂ (λ a b. a ++ b) (left_key r s e) (right_key r s e)

      pair_keys : (r r' s s' : List Value) → wide r ≡ true → wide r' ≡ true → asked ByPair r s ≡ true → asked ByPair r' s' ≡ true → (key_in arm.from r ≡ key_in arm.from r') × (key_in j.table s ≡ key_in j.table s')
      pair_keys r r' s s' e e' p p' = apart_again (cell r) (cell r') (from_key old arm) (key_in j.table s) (key_in j.table s') (sym (both_keys r s e) ∙ sym (its_key ByPair r s p) ∙ its_key ByPair r' s' p' ∙ both_keys r' s' e')

      pair_once : Judges ByPair → tally q (whole_by old arm ByPair) ≤ 1
      pair_once judges =
          omega (arith, once, ap (tally q) (form ByPair refl))
        where
          once : tally q (flat_map (λ r. flat_map (λ s. of_pair old arm j (r ++ s)) join) from) ≤ 1
          once =
              once_in_pairs same_key same_key (key_in arm.from) (key_in j.table) wide (λ s. true) (λ r s. of_pair old arm j (r ++ s)) q (asked ByPair)
              (λ r s e o. pair_tally ByPair judges j (r ++ s))
              (λ r r' s s' e e' o o' p p'. same_from_equal _ _ (pair_keys r r' s s' e e' p p').0)
              (λ r s s' e o o' p p'. same_from_equal _ _ (pair_keys r r s s' e e p p').1)
              from join (as_wide old is arm arm.from) (list_all_always join) (keys_apart arm.from) (keys_apart j.table)

    abbrev value : List Value → List Value
    value = group_value old arm

    group_once : Judges ByGroup → tally q (whole_by old arm ByGroup) ≤ 1
    group_once judges =
        let rows = satisfying old arm from (rows_of_join old arm.join) in
        let group : List Value → List (List Value) = λ v. filter (λ m. same_key v (value m)) rows in
        let vs : List (List Value) = distinct same_key (map value rows) in
        let count = tally_of_map q (made old arm) (map group vs) ∙ tally_of_map (λ g. q (made old arm g)) group vs in
        let all_there : list_all (λ v. has same_key (map value rows) v) vs ≡ true =
        all_so (has same_key vs) (has same_key (map value rows)) (λ v there. sym (distinct-has same_key key-symmetric key-equal key-itself (map value rows) v) ∙ there) vs
        (has_own same_key key-itself vs) in
        let less = tally_less (λ v. q (made old arm (group v))) (same_key k) (has same_key (map value rows))
        (λ v there. judges (group v) ∙ ap (same_key k) (map-map (cell (first_row (group v))) (place_of (arm_scope old arm)) arm.group ∙ first_with value v rows there)) vs all_there in
        let once = tally_of_apart same_key key-equal k vs (distinct-apart same_key key-symmetric key-equal key-itself (map value rows)) in
        omega (arith, count, less, once)

    pub once_by : (kind : ArmKind) → arm_kind old arm ≡ kind → two_sided old arm ≡ true → Judges kind → tally q (whole_by old arm kind) ≤ 1
    once_by ByFrom e sided judges = of arm.join refl
      where
        of : (o : Option Join) → arm.join ≡ o → tally q (whole_by old arm ByFrom) ≤ 1
        of None alone = from_alone judges alone
        of (Some j) joined = from_joined j joined sided judges (from_with_join _ _ _ (sym (ap (λ b. kind_by (nat_lt 0 (length arm.group)) b (list_all (has nat_eq (on_places old arm)) (join_key old arm)) (list_all (has nat_eq (on_places old arm)) (from_key old arm))) (ap is_some joined)) ∙ e))
    once_by ByJoin e sided judges =
        let both = join_has_from _ (is_some arm.join) _ _ e in
        let (j, joined) = if_there arm.join both.0 in
        join_once j joined sided judges both.1
    once_by ByPair e sided judges =
        let (j, joined) = if_there arm.join (joins_by_pair _ (is_some arm.join) _ _ e) in
        pair_once j joined sided judges
    once_by ByGroup e sided judges = group_once judges
