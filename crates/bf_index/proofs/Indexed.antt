-- An index of rows by their values: what one more row changes, and that it is found by look-ups.
use Rattle.std.proofs.Common.{◌≡◌, ℕ, zero, suc, ◌+◌, ◌<◌, Bool, true, false, ◌||◌, cond, List, [], ◌∷◌, ◌++◌, map, map-id, filter, flat_map, length, take, drop, get_or, Option, Some, None, option_map, unwrap_or, refl, sym, ap, ap₂, ◌∙◌, insert, arith, is_eq, is_lt, slice_get, nat_lt}
use Rattle.std.specs.BTreeMap.{is_at}
use Rattle.std.specs.List.{enumerate_from, list_all}
use Rattle.std.specs.List.Sorted.{IsStrictlySortedBy}
use Rattle.std.specs.Map.{keys_of, lookup}
use Rattle.std.specs.Option.{option_to_list}
use Rattle.std.proofs.lemmas.Bool.{and_parts, and_from, or_parts}
use Rattle.std.proofs.lemmas.List.{append-nil, append_assoc, length-append, drop_more, take_more, take_all, drop_all, length-map, get_or-map}
use Rattle.std.proofs.lemmas.List.Folds.{list_any-append}
use Rattle.std.proofs.lemmas.Map.Keys.{sorted_head, sorted_tail}
use Rattle.bf_base.specs.declared.value.Value.{Value}
use Rattle.bf_base.specs.Distinct.{distinct}
use Rattle.bf_base.specs.Lists.{same_key, has, when, rises, in_order}
use Rattle.bf_base.specs.Maps.{is_map, entry_at}
use Rattle.bf_base.specs.Tables.{cells}
use Rattle.bf_base.specs.Values.{key_cmp, key_cmp_total, key_cmp-IsAntisymmetric}
use Rattle.bf_base.proofs.Order.{symmetric, same_from_look_ups}
use Rattle.bf_heap.specs.Heaps.{Entry}
use Rattle.bf_index.specs.ByValues.{Valued, value_of, positions_of, by_value, positions_under, are_within, values_at}
use Rattle.bf_index.proofs.Values.{same-equal, same-itself, distinct-apart, in_order-apart, values_in_order-has}

-- the positions of the rows with a value, of rows of which the first is at a position
abbrev from_on : ℕ → List Value → List (List Value) → List ℕ
from_on n value values = map (λ row. row.0) (filter (λ row. same_key value row.1) (enumerate_from n values))

only_row : (b : Bool) (n at : ℕ) (v : List Value) → n ≡ at → map (λ (row : ℕ × List Value). row.0) (cond b ((n, v) ∷ []) []) ≡ when b at
only_row true n at v e = ap (λ k. k ∷ []) e
only_row false n at v e = refl

with_first : (b : Bool) (row : ℕ × List Value) (more fewer : List (ℕ × List Value)) (last : List ℕ) → map (λ (row : ℕ × List Value). row.0) more ≡ map (λ (row : ℕ × List Value). row.0) fewer ++ last
    → map (λ (row : ℕ × List Value). row.0) (cond b (row ∷ more) more) ≡ map (λ (row : ℕ × List Value). row.0) (cond b (row ∷ fewer) fewer) ++ last
with_first true row more fewer last e = ap (λ rows. row.0 ∷ rows) e
with_first false row more fewer last e = e

one_more_from : (n : ℕ) (value : List Value) (values : List (List Value)) (v : List Value) → from_on n value (values ++ v ∷ []) ≡ from_on n value values ++ when (same_key value v) (n + length values)
one_more_from n value [] v = only_row (same_key value v) n (n + 0) v (omega arith)
one_more_from n value (x ∷ xs) v =
    let at : n + 1 + length xs ≡ n + length (x ∷ xs) = omega arith in
    with_first (same_key value x) (n, x) _ _ (when (same_key value v) (n + length (x ∷ xs))) (one_more_from (n + 1) value xs v ∙ ap (λ k. from_on (n + 1) value xs ++ when (same_key value v) k) at)

none_from : (n : ℕ) (value : List Value) (values : List (List Value)) → has same_key values value ≡ false → from_on n value values ≡ []
none_from n value [] none = refl
none_from n value (x ∷ xs) none =
    let first : same_key value x ≡ false = (or_parts _ _ none).0 in
    rw first (none_from (n + 1) value xs (or_parts _ _ none).1)

-- what an index has under a value
abbrev pub noted : List Value → List (List Value) → Option (List ℕ)
noted value values = cond (has same_key values value) (Some (positions_of value values)) None

in_each : (there same : Bool) (before after : List ℕ) (n : ℕ) → after ≡ before ++ when same n → (there ≡ false → before ≡ [])
    → cond (there || (same || false)) (Some after) None ≡ cond same (Some (unwrap_or (cond there (Some before) None) [] ++ n ∷ [])) (cond there (Some before) None)
in_each true true before after n e none = ap Some e
in_each true false before after n e none = ap Some (e ∙ append-nil before)
in_each false true before after n e none = ap Some (e ∙ ap (λ z. z ++ n ∷ []) (none refl))
in_each false false before after n e none = refl

-- and with one more row
noted_more : (value : List Value) (values : List (List Value)) (v : List Value) (n : ℕ) → length values ≡ n
    → cond (same_key value v) (Some (unwrap_or (noted value values) [] ++ n ∷ [])) (noted value values) ≡ noted value (values ++ v ∷ [])
noted_more value values v n counted =
    let at : 0 + length values ≡ n = omega (arith, counted) in
    let more : positions_of value (values ++ v ∷ []) ≡ positions_of value values ++ when (same_key value v) n = one_more_from 0 value values v ∙ ap (λ k. positions_of value values ++ when (same_key value v) k) at in
    sym (ap (λ b. cond b (Some (positions_of value (values ++ v ∷ []))) None) (list_any-append (same_key value) values (v ∷ []))
    ∙ in_each (has same_key values value) (same_key value v) (positions_of value values) (positions_of value (values ++ v ∷ [])) n more (none_from 0 value values))

in_one_or_other : (b : Bool) (v value : List Value) (values : List (List Value)) (n : ℕ) → same_key value v ≡ b → cond b (Some (unwrap_or (noted v values) [] ++ n ∷ [])) (noted value values) ≡ cond (same_key value v) (Some (unwrap_or (noted value values) [] ++ n ∷ [])) (noted value values)
in_one_or_other true v value values n e =
    ap (λ (u : List Value). Some (unwrap_or (noted u values) [] ++ n ∷ [])) (sym (same-equal key_cmp_total key_cmp-IsAntisymmetric value v e))
    ∙ ap (λ b. cond b (Some (unwrap_or (noted value values) [] ++ n ∷ [])) (noted value values)) (sym e)
in_one_or_other false v value values n e = ap (λ b. cond b (Some (unwrap_or (noted value values) [] ++ n ∷ [])) (noted value values)) (sym e)

-- what stands under a value once a position is added under another or the same
pub noted_added : (v value : List Value) (values : List (List Value)) (n : ℕ) → length values ≡ n
    → cond (same_key v value) (Some (unwrap_or (noted v values) [] ++ n ∷ [])) (noted value values) ≡ noted value (values ++ v ∷ [])
noted_added v value values n counted = in_one_or_other (same_key v value) v value values n (symmetric key_cmp_total value v) ∙ noted_more value values v n counted

pub insert_last : (xs : List ℕ) (n x : ℕ) → n ≡ length xs → insert xs n x ≡ xs ++ x ∷ []
insert_last xs n x end = ap₂ (λ front back. front ++ x ∷ back) (take_all n xs (omega arith)) (drop_all n xs (omega arith))

-- the entry of a value among values that each have something
entry_of : (f : List Value → List ℕ) (ks : List (List Value)) (value : List Value) → entry_at key_cmp value_of (map (λ k. (k, f k)) ks) value ≡ cond (has same_key ks value) (Some (value, f value)) None
entry_of f [] value = refl
entry_of f (k ∷ ks) value = elim (same_key value k) as (λ b. same_key value k ≡ b → cond (is_eq (key_cmp k value)) (Some (k, f k)) (entry_at key_cmp value_of (map (λ k. (k, f k)) ks) value) ≡ cond (b || has same_key ks value) (Some (value, f value)) None) [
  | true ↦ λ e.
      ap (λ b. cond b (Some (k, f k)) (entry_at key_cmp value_of (map (λ k. (k, f k)) ks) value)) (symmetric key_cmp_total k value ∙ e)
      ∙ ap (λ k. Some (k, f k)) (sym (same-equal key_cmp_total key_cmp-IsAntisymmetric value k e))
  | false ↦ λ e.
      ap (λ b. cond b (Some (k, f k)) (entry_at key_cmp value_of (map (λ k. (k, f k)) ks) value)) (symmetric key_cmp_total k value ∙ e)
      ∙ entry_of f ks value
] refl

entry_is : (values : List (List Value)) (value : List Value) → entry_at key_cmp value_of (by_value values) value ≡ cond (has same_key values value) (Some (value, positions_of value values)) None
entry_is values value =
    entry_of (λ v. positions_of v values) (in_order key_cmp (λ v. v) (distinct same_key values)) value
    ∙ ap (λ b. cond b (Some (value, positions_of value values)) None) (values_in_order-has key_cmp_total key_cmp-IsAntisymmetric values value)

values_alone : (f : List Value → List ℕ) (ks : List (List Value)) → map value_of (map (λ k. (k, f k)) ks) ≡ map (λ k. k) ks
values_alone f [] = refl
values_alone f (k ∷ ks) = ap (λ zs. k ∷ zs) (values_alone f ks)

pub by_value-in_order : (values : List (List Value)) → is_map key_cmp value_of (by_value values) ≡ true
by_value-in_order values =
    ap (rises key_cmp) (values_alone (λ v. positions_of v values) (in_order key_cmp (λ v. v) (distinct same_key values)))
    ∙ in_order-apart key_cmp_total key_cmp-IsAntisymmetric (distinct same_key values) (distinct-apart same_key (symmetric key_cmp_total) (same-equal key_cmp_total key_cmp-IsAntisymmetric) (same-itself key_cmp_total key_cmp-IsAntisymmetric) values)

under_in : (there : Bool) (value : List Value) (positions : List ℕ) → (there ≡ false → positions ≡ []) → unwrap_or (option_map (λ (e : Valued). e.1) (cond there (Some (value, positions)) None)) [] ≡ positions
under_in true value positions none = refl
under_in false value positions none = sym (none refl)

-- under each value stand the positions of its rows
pub under_is : (values : List (List Value)) (value : List Value) → positions_under (by_value values) value ≡ positions_of value values
under_is values value =
    ap (λ (o : Option Valued). unwrap_or (option_map (λ (e : Valued). e.1) o) []) (entry_is values value)
    ∙ under_in (has same_key values value) value (positions_of value values) (none_from 0 value values)

-- a look-up by key and one by entry
found_by : (es : List Valued) (value : List Value) → entry_at key_cmp value_of es value ≡ option_map {U = Valued} (λ positions. (value, positions)) (lookup (is_at (key_cmp value)) es)
found_by [] value = refl
found_by (e ∷ es) value = elim (same_key value e.0) as (λ b. same_key value e.0 ≡ b → cond (is_eq (key_cmp e.0 value)) (Some e) (entry_at key_cmp value_of es value) ≡ option_map {U = Valued} (λ positions. (value, positions)) (cond b (Some e.1) (lookup (is_at (key_cmp value)) es))) [
  | true ↦ λ same.
      ap (λ b. cond b (Some e) (entry_at key_cmp value_of es value)) (symmetric key_cmp_total e.0 value ∙ same)
      ∙ ap (λ (k : List Value). Some (k, e.1)) (sym (same-equal key_cmp_total key_cmp-IsAntisymmetric value e.0 same))
  | false ↦ λ same.
      ap (λ b. cond b (Some e) (entry_at key_cmp value_of es value)) (symmetric key_cmp_total e.0 value ∙ same)
      ∙ found_by es value
] refl

spread : (there : Bool) (value : List Value) (positions : List ℕ) → option_map {U = Valued} (λ (p : List ℕ). (value, p)) (cond there (Some positions) None) ≡ cond there (Some (value, positions)) None
spread true value positions = refl
spread false value positions = refl

rises_from_sorted : (es : List Valued) → IsStrictlySortedBy key_cmp (keys_of es) → is_map key_cmp value_of es ≡ true
rises_from_sorted [] h = refl
rises_from_sorted (e ∷ []) h = refl
rises_from_sorted (e ∷ f ∷ es) h = and_from _ _ (ap is_lt (sorted_head key_cmp e.0 (keys_of (f ∷ es)) h).0) (rises_from_sorted (f ∷ es) (sorted_tail key_cmp e.0 (keys_of (f ∷ es)) h))

-- sorted entries that have under each value what is noted of it are the index
pub index_is : (values : List (List Value)) (es : List Valued) → IsStrictlySortedBy key_cmp (keys_of es) → ((value : List Value) → lookup (is_at (key_cmp value)) es ≡ noted value values) → es ≡ by_value values
index_is values es sorted same =
    same_from_look_ups key_cmp_total value_of es (by_value values) (rises_from_sorted es sorted) (by_value-in_order values) (λ value.
    found_by es value
    ∙ ap (option_map {U = Valued} (λ positions. (value, positions))) (same value)
    ∙ spread (has same_key values value) value (positions_of value values)
    ∙ sym (entry_is values value))

pub row_here : (rows : List Entry) (i : ℕ) (d : Entry) → i < length rows → slice_get (drop i rows) 0 ≡ Some (get_or rows i d)
row_here rows i d within = ap (λ rs. slice_get rs 0) (drop_more rows i d within)

pub within_here : (places : List ℕ) (rows : List Entry) (i : ℕ) (d : Entry) → are_within places rows ≡ true → i < length rows → list_all (λ place. nat_lt place (length (get_or rows i d).1)) places ≡ true
within_here places [] i d all within = absurd (omega arith)
within_here places (row ∷ rows) zero d all within = (and_parts _ _ all).0
within_here places (row ∷ rows) (suc i) d all within = within_here places rows i d (and_parts _ _ all).1 (omega arith)

pub one_more_value : (places : List ℕ) (rows : List Entry) (i : ℕ) (d : Entry) → i < length rows → take (i + 1) (values_at places rows) ≡ take i (values_at places rows) ++ cells places (get_or rows i d).1 ∷ []
one_more_value places rows i d within =
    take_more (values_at places rows) i [] (omega (arith, within, length-map rows (λ (e : Entry). cells places e.1)))
    ∙ ap (λ (v : List Value). take i (values_at places rows) ++ v ∷ []) (get_or-map (λ (e : Entry). cells places e.1) rows i d [] within)

-- the values of an index are those of the rows, each once and in order
pub values_are : (values : List (List Value)) → map value_of (by_value values) ≡ in_order key_cmp (λ v. v) (distinct same_key values)
values_are values =
    values_alone (λ v. positions_of v values) (in_order key_cmp (λ v. v) (distinct same_key values))
    ∙ map-id (in_order key_cmp (λ v. v) (distinct same_key values))

module _ (made : List Value → List Value) (value : List Value) where
  abbrev rows_at : List (List Value) → List ℕ → List (List Value)
  rows_at rows positions = flat_map (λ at. option_to_list (slice_get rows at)) positions

  row_between : (before : List (List Value)) (x : List Value) (xs : List (List Value)) (n : ℕ) → length before ≡ n → slice_get (before ++ x ∷ xs) n ≡ Some x
  row_between [] x xs zero e = refl
  row_between [] x xs (suc n) e = absurd (omega arith)
  row_between (b ∷ before) x xs zero e = absurd (omega arith)
  row_between (b ∷ before) x xs (suc n) e = row_between before x xs n (omega arith)

  first_or_not : (b : Bool) (n : ℕ) (x : List Value) (all rest : List (List Value)) (later : List (ℕ × List Value)) → slice_get all n ≡ Some x → rows_at all (map (λ row. row.0) later) ≡ rest
      → rows_at all (map (λ row. row.0) (cond b ((n, made x) ∷ later) later)) ≡ cond b (x ∷ rest) rest
  first_or_not true n x all rest later here e = ap₂ (λ (o : Option (List Value)) (more : List (List Value)). option_to_list o ++ more) here e
  first_or_not false n x all rest later here e = e

  rows_from : (before rows : List (List Value)) (n : ℕ) → length before ≡ n → rows_at (before ++ rows) (from_on n value (map made rows)) ≡ filter (λ row. same_key value (made row)) rows
  rows_from before [] n e = refl
  rows_from before (x ∷ xs) n e =
      let next : length (before ++ x ∷ []) ≡ n + 1 = omega (arith, length-append before (x ∷ []), e) in
      let rest = ap (λ all. rows_at all (from_on (n + 1) value (map made xs))) (sym (append_assoc before (x ∷ []) xs)) ∙ rows_from (before ++ x ∷ []) xs (n + 1) next in
      first_or_not (same_key value (made x)) n x (before ++ x ∷ xs) (filter (λ row. same_key value (made row)) xs) _ (row_between before x xs n e) rest

  -- the rows at the positions of a value are those that have it
  pub rows_are : (rows : List (List Value)) → flat_map (λ at. option_to_list (slice_get rows at)) (positions_of value (map made rows)) ≡ filter (λ row. same_key value (made row)) rows
  rows_are rows = rows_from [] rows 0 refl
