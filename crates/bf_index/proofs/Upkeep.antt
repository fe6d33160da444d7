-- The index of some rows has the pair of each row, and an edit of the rows makes of it the index of the edited rows.
use Rattle.std.proofs.Common.{◌≡◌, ℕ, ◌+◌, Bool, true, false, not, ◌&&◌, ◌||◌, cond, if◌then◌else◌, List, [], ◌∷◌, map, fold, length, Ordering, Less, Equal, Greater, Option, Some, None, option_map, refl, sym, ap, ◌∙◌, inl, inr, arith, is_lt, is_eq}
use Rattle.std.specs.Ordering.{ordering_then, eq_by_cmp}
use Rattle.std.proofs.lemmas.Bool.{and_from, and_parts, cases_Bool, not_from_false}
use Rattle.std.proofs.lemmas.List.{length-map}
use Rattle.bf_base.specs.declared.value.Value.{Value}
use Rattle.bf_base.specs.Lists.{rises, has, placed, with_placed, same_key}
use Rattle.bf_base.specs.Maps.{is_map, entry_at}
use Rattle.bf_base.specs.Tables.{cells}
use Rattle.bf_base.specs.Values.{key_cmp, key_cmp_total, key_cmp-IsAntisymmetric}
use Rattle.bf_base.proofs.Apart.{are_apart, rises-placed_apart}
use Rattle.bf_base.proofs.Maps.{entry_at-with_entry, entry_at-without_key, is_map-with_entry, is_map-without_key}
use Rattle.bf_base.proofs.Order.{equal_from_test, has-with_placed, is_some-look_up, less_from_test, rises_alike, rises_skip, rises_tail, symmetric, turned_equal, turned_less}
use Rattle.bf_heap.specs.Heaps.{Entry, key_of_entry, row_under, with_row, without_row}
use Rattle.bf_index.specs.Edits.{RowEdit, edited, index_of, pair_of, pairs_after, rows_after, without_former}
use Rattle.bf_index.specs.Edits.RowEdit.{put, remove}
use Rattle.bf_index.specs.Pairs.{Pair, has_pair, itself, pair_cmp}
use Rattle.bf_index.proofs.Members.{has_pair-with_pair, has_pair-without_pair, same_from_members}
use Rattle.bf_index.proofs.Orders.{pair_cmp_total, pair_cmp-IsAntisymmetric}

then_equal : (r : Ordering) → is_eq (ordering_then r Equal) ≡ is_eq r
then_equal Less = refl
then_equal Equal = refl
then_equal Greater = refl

pub first_apart : (r s : Ordering) → is_eq r ≡ false → is_eq (ordering_then r s) ≡ false
first_apart Less s e = refl
first_apart Equal s e = absurd cc
first_apart Greater s e = refl

then_apart : (r s : Ordering) → is_eq s ≡ false → is_eq (ordering_then r s) ≡ false
then_apart Less s e = refl
then_apart Equal s e = e
then_apart Greater s e = refl

-- no row stands under a key below all others
pub none_below : (key : List Value) (entries : List Entry) → rises key_cmp (key ∷ map key_of_entry entries) ≡ true → row_under entries key ≡ None
none_below key [] h = refl
none_below key (e ∷ es) h =
    let later = turned_less key_cmp_total key e.0 (less_from_test _ (and_parts _ _ h).0) in
    rw later (none_below key es (rises_skip key_cmp_total key e.0 (map key_of_entry es) h))

row_under-with_row : (entries : List Entry) (key row k : List Value) → row_under (with_row entries key row) k ≡ cond (is_eq (key_cmp key k)) (Some row) (row_under entries k)
row_under-with_row entries key row k =
    ap (option_map (λ (e : Entry). e.1)) (entry_at-with_entry key_cmp_total key_of_entry entries (key, row) k)
    ∙ elim (is_eq (key_cmp key k)) as (λ b. option_map (λ (e : Entry). e.1) (cond b (Some (key, row)) (entry_at key_cmp key_of_entry entries k)) ≡ cond b (Some row) (row_under entries k)) [ true ↦ refl | false ↦ refl ]

row_under-without_row : (entries : List Entry) (key k : List Value) → row_under (without_row entries key) k ≡ cond (is_eq (key_cmp key k)) None (row_under entries k)
row_under-without_row entries key k =
    ap (option_map (λ (e : Entry). e.1)) (entry_at-without_key key_cmp_total key_of_entry entries key k)
    ∙ elim (is_eq (key_cmp key k)) as (λ b. option_map (λ (e : Entry). e.1) (cond b None (entry_at key_cmp key_of_entry entries k)) ≡ cond b None (row_under entries k)) [ true ↦ refl | false ↦ refl ]

module _ (columns : List ℕ) where
  -- whether a row, if there is one, has a value at the columns
  abbrev pub stands : Option (List Value) → List Value → Bool
  stands None value = false
  stands (Some row) value = same_key (cells columns row) value

  -- some row's pair is this one, where the row under the key has the value
  some_pair : (entries : List Entry) (pair : Pair) → is_map key_cmp key_of_entry entries ≡ true → has (eq_by_cmp pair_cmp) (map itself (map (pair_of columns) entries)) pair ≡ stands (row_under entries pair.1) pair.0
  some_pair [] pair h = refl
  some_pair (e ∷ es) pair h =
      let rest = some_pair es pair (rises_tail key_cmp_total e.0 (map key_of_entry es) h) in
      elim (cases_Bool (is_eq (key_cmp e.0 pair.1))) [
        | inl tied ↦
            let level = equal_from_test _ tied in
            let none : row_under es pair.1 ≡ None = none_below pair.1 es (rises_alike key_cmp_total e.0 pair.1 (map key_of_entry es) level h) in
            let no_more : has (eq_by_cmp pair_cmp) (map itself (map (pair_of columns) es)) pair ≡ false = rest ∙ ap (λ r. stands r pair.0) none in
            let same : eq_by_cmp pair_cmp pair (pair_of columns e) ≡ same_key (cells columns e.1) pair.0 =
            ap (λ r. is_eq (ordering_then (key_cmp pair.0 (cells columns e.1)) r)) (turned_equal key_cmp_total e.0 pair.1 level)
            ∙ then_equal (key_cmp pair.0 (cells columns e.1)) ∙ symmetric key_cmp_total pair.0 (cells columns e.1) in
            first_of_two _ _ _ same no_more ∙ rw tied refl
        | inr apart ↦
            let other : eq_by_cmp pair_cmp pair (pair_of columns e) ≡ false = then_apart (key_cmp pair.0 (cells columns e.1)) (key_cmp pair.1 e.0) (symmetric key_cmp_total pair.1 e.0 ∙ apart) in
            second_of_two _ _ other ∙ rest ∙ rw apart refl
      ]
    where
      first_of_two : (a b c : Bool) → a ≡ c → b ≡ false → (a || b) ≡ c
      first_of_two true b c e f = e
      first_of_two false b c e f = f ∙ e

      second_of_two : (a b : Bool) → a ≡ false → (a || b) ≡ b
      second_of_two true b e = absurd cc
      second_of_two false b e = refl

  pub has_pair-index_of : (entries : List Entry) (pair : Pair) → is_map key_cmp key_of_entry entries ≡ true → has_pair (index_of columns entries) pair ≡ stands (row_under entries pair.1) pair.0
  has_pair-index_of entries pair h =
      is_some-look_up pair_cmp_total itself (index_of columns entries) pair
      ∙ has-with_placed pair_cmp_total itself [] (map (pair_of columns) entries) pair
      ∙ some_pair entries pair h

  apart_pairs : (entries : List Entry) → is_map key_cmp key_of_entry entries ≡ true → are_apart (eq_by_cmp pair_cmp) (map itself (map (pair_of columns) entries)) ≡ true
  apart_pairs [] h = refl
  apart_pairs (e ∷ es) h =
      let tail = rises_tail key_cmp_total e.0 (map key_of_entry es) h in
      let new = some_pair es (pair_of columns e) tail ∙ ap (λ r. stands r (cells columns e.1)) (none_below e.0 es h) in
      and_from _ _ (not_from_false _ new) (apart_pairs es tail)

  pub index_rises : (entries : List Entry) → is_map key_cmp key_of_entry entries ≡ true → is_map pair_cmp itself (index_of columns entries) ≡ true
  index_rises entries h = rises-placed_apart pair_cmp_total itself [] (map (pair_of columns) entries) refl (apart_pairs entries h)

  module _ (entries : List Entry) (h : is_map key_cmp key_of_entry entries ≡ true) where
    -- without the pair of the row under a key
    former_gone : (key : List Value) (pair : Pair) → has_pair (without_former columns (index_of columns entries) key (row_under entries key)) pair ≡ cond (is_eq (key_cmp key pair.1)) false (stands (row_under entries pair.1) pair.0)
    former_gone key pair =
        let there = has_pair-index_of entries pair h in
        let level : is_eq (key_cmp key pair.1) ≡ true → row_under entries pair.1 ≡ row_under entries key = λ tied. ap (row_under entries) (sym (key_cmp-IsAntisymmetric key pair.1 (equal_from_test _ tied))) in
        elim (row_under entries key) as (λ r. row_under entries key ≡ r → has_pair (without_former columns (index_of columns entries) key r) pair ≡ cond (is_eq (key_cmp key pair.1)) false (stands (row_under entries pair.1) pair.0)) [
          | None ↦ λ none. there ∙ elim (cases_Bool (is_eq (key_cmp key pair.1))) [
            | inl tied ↦ rw tied (ap (λ r. stands r pair.0) (level tied ∙ none))
            | inr apart ↦ rw apart refl
          ]
          | Some row ↦ λ is. has_pair-without_pair (index_of columns entries) (pair_of columns (key, row)) pair ∙ ap (λ b. not (is_eq (pair_cmp (pair_of columns (key, row)) pair)) && b) there ∙ elim (cases_Bool (is_eq (key_cmp key pair.1))) [
            | inl tied ↦
                let row_is = level tied ∙ is in
                let same : is_eq (pair_cmp (pair_of columns (key, row)) pair) ≡ same_key (cells columns row) pair.0 = ap (λ r. is_eq (ordering_then (key_cmp (cells columns row) pair.0) r)) (equal_from_test _ tied) ∙ then_equal (key_cmp (cells columns row) pair.0) in
                not_both _ _ _ same (ap (λ r. stands r pair.0) row_is) ∙ rw tied refl
            | inr apart ↦
                let other = then_apart (key_cmp (cells columns row) pair.0) (key_cmp key pair.1) apart in
                keeps _ _ other ∙ rw apart refl
          ]
        ] refl
      where
        not_both : (a b c : Bool) → a ≡ c → b ≡ c → (not a && b) ≡ false
        not_both true b c e f = refl
        not_both false b c e f = f ∙ sym e

        keeps : (a b : Bool) → a ≡ false → (not a && b) ≡ b
        keeps true b e = absurd cc
        keeps false b e = refl

    former_rises : (key : List Value) (former : Option (List Value)) → is_map pair_cmp itself (without_former columns (index_of columns entries) key former) ≡ true
    former_rises key None = index_rises entries h
    former_rises key (Some row) = is_map-without_key pair_cmp_total itself (index_of columns entries) (pair_of columns (key, row)) (index_rises entries h)

    rows_rise : (edit : RowEdit) → is_map key_cmp key_of_entry (rows_after entries edit) ≡ true
    rows_rise (put key row) = is_map-with_entry key_cmp_total key_of_entry entries (key, row) h
    rows_rise (remove key) = is_map-without_key key_cmp_total key_of_entry entries key h

    pairs_rise : (edit : RowEdit) → is_map pair_cmp itself (pairs_after columns entries (index_of columns entries) edit) ≡ true
    pairs_rise (put key row) = is_map-with_entry pair_cmp_total itself (without_former columns (index_of columns entries) key (row_under entries key)) (pair_of columns (key, row)) (former_rises key (row_under entries key))
    pairs_rise (remove key) = former_rises key (row_under entries key)

    same_members : (edit : RowEdit) (pair : Pair) → has_pair (pairs_after columns entries (index_of columns entries) edit) pair ≡ has_pair (index_of columns (rows_after entries edit)) pair
    same_members (put key row) pair =
        has_pair-with_pair (without_former columns (index_of columns entries) key (row_under entries key)) (pair_of columns (key, row)) pair
        ∙ ap (λ b. is_eq (pair_cmp (pair_of columns (key, row)) pair) || b) (former_gone key pair)
        ∙ elim (cases_Bool (is_eq (key_cmp key pair.1))) [
          | inl tied ↦
              let same : is_eq (pair_cmp (pair_of columns (key, row)) pair) ≡ same_key (cells columns row) pair.0 = ap (λ r. is_eq (ordering_then (key_cmp (cells columns row) pair.0) r)) (equal_from_test _ tied) ∙ then_equal (key_cmp (cells columns row) pair.0) in
              rw tied (either_none _ _ same)
          | inr apart ↦
              let other = then_apart (key_cmp (cells columns row) pair.0) (key_cmp key pair.1) apart in
              rw apart (second_only _ _ other)
        ]
        ∙ sym (has_pair-index_of (with_row entries key row) pair (rows_rise (put key row)) ∙ ap (λ r. stands r pair.0) (row_under-with_row entries key row pair.1))
      where
        either_none : (a b : Bool) → a ≡ b → (a || false) ≡ b
        either_none true b e = e
        either_none false b e = e

        second_only : (a b : Bool) → a ≡ false → (a || b) ≡ b
        second_only true b e = absurd cc
        second_only false b e = refl
    same_members (remove key) pair =
        former_gone key pair
        ∙ elim (is_eq (key_cmp key pair.1)) as (λ b. cond b false (stands (row_under entries pair.1) pair.0) ≡ stands (cond b None (row_under entries pair.1)) pair.0) [ true ↦ refl | false ↦ refl ]
        ∙ sym (has_pair-index_of (without_row entries key) pair (rows_rise (remove key)) ∙ ap (λ r. stands r pair.0) (row_under-without_row entries key pair.1))

    -- one edit
    pub one_edit : (edit : RowEdit) → pairs_after columns entries (index_of columns entries) edit ≡ index_of columns (rows_after entries edit)
    one_edit edit = same_from_members pair_cmp_total pair_cmp-IsAntisymmetric (pairs_after columns entries (index_of columns entries) edit) (index_of columns (rows_after entries edit)) (pairs_rise edit) (index_rises (rows_after entries edit) (rows_rise edit)) (same_members edit)

    -- a row that changes at other columns alone
    pub unchanged : (key row former : List Value) → row_under entries key ≡ Some former → cells columns row ≡ cells columns former → index_of columns (with_row entries key row) ≡ index_of columns entries
    unchanged key row former there same =
        let rows_now = rows_rise (put key row) in
        same_from_members pair_cmp_total pair_cmp-IsAntisymmetric (index_of columns (with_row entries key row)) (index_of columns entries) (index_rises (with_row entries key row) rows_now) (index_rises entries h) (λ pair.
        has_pair-index_of (with_row entries key row) pair rows_now ∙ ap (λ r. stands r pair.0) (row_under-with_row entries key row pair.1)
        ∙ elim (cases_Bool (is_eq (key_cmp key pair.1))) [
          | inl tied ↦
              let level = key_cmp-IsAntisymmetric key pair.1 (equal_from_test _ tied) in
              rw tied (ap (λ value. same_key value pair.0) same ∙ ap (λ r. stands r pair.0) (sym (ap (row_under entries) (sym level) ∙ there)))
          | inr apart ↦ rw apart refl
        ]
        ∙ sym (has_pair-index_of entries pair h))

  -- any list of edits
  pub edited_is : (entries : List Entry) (edits : List RowEdit) → is_map key_cmp key_of_entry entries ≡ true → edited columns entries (index_of columns entries) edits ≡ index_of columns (fold rows_after entries edits)
  edited_is entries [] h = refl
  edited_is entries (edit ∷ edits) h =
      ap (λ pairs. edited columns (rows_after entries edit) pairs edits) (one_edit entries h edit)
      ∙ edited_is (rows_after entries edit) edits (rows_rise entries h edit)

  length-placed : (pairs : List Pair) (pair : Pair) → length (placed pair_cmp itself pairs pair) ≡ length pairs + 1
  length-placed [] pair = refl
  length-placed (y ∷ ys) pair = elim (is_lt (pair_cmp pair y)) as (λ b. length (if b then pair ∷ y ∷ ys else y ∷ placed pair_cmp itself ys pair) ≡ length (y ∷ ys) + 1) [
    | true ↦ omega arith
    | false ↦ omega (arith, length-placed ys pair)
  ]

  length-with_placed : (pairs more : List Pair) → length (with_placed pair_cmp itself pairs more) ≡ length pairs + length more
  length-with_placed pairs [] = omega arith
  length-with_placed pairs (pair ∷ more) = omega (arith, length-with_placed (placed pair_cmp itself pairs pair) more, length-placed pairs pair)

  pub length-index_of : (entries : List Entry) → length (index_of columns entries) ≡ length entries
  length-index_of entries = omega (arith, length-with_placed [] (map (pair_of columns) entries), length-map entries (pair_of columns))
