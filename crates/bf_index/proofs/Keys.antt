-- The keys that the index of a table's rows has with a value are those of the rows that have it.
use Rattle.std.proofs.Common.{◌≡◌, ℕ, Bool, true, false, cond, List, [], ◌∷◌, map, filter, Less, Equal, Option, Some, None, is_some, refl, sym, ap, subst, ◌∙◌, inl, inr, is_lt, is_eq}
use Rattle.std.specs.Ordering.{ordering_then}
use Rattle.std.proofs.lemmas.Bool.{and_parts, cases_Bool}
use Rattle.bf_base.specs.declared.value.Value.{Value}
use Rattle.bf_base.specs.Lists.{rises, same_key}
use Rattle.bf_base.specs.Maps.{is_map}
use Rattle.bf_base.specs.Tables.{cells}
use Rattle.bf_base.specs.Values.{key_cmp, key_cmp_total, key_cmp-IsAntisymmetric}
use Rattle.bf_base.proofs.Apart.{rises-filter}
use Rattle.bf_base.proofs.Order.{equal_from_test, first_is, less_from_test, rises_alike, rises_cons, rises_skip, rises_tail, turned_equal}
use Rattle.bf_base.proofs.Parts.{map_itself}
use Rattle.bf_heap.specs.Heaps.{Entry, key_of_entry, row_under}
use Rattle.bf_index.specs.Edits.{index_of}
use Rattle.bf_index.specs.Pairs.{Pair, has_pair, itself, keys_with, pair_cmp}
use Rattle.bf_index.proofs.Members.{is_in, same_from_members}
use Rattle.bf_index.proofs.Orders.{pair_cmp_total}
use Rattle.bf_index.proofs.Upkeep.{first_apart, has_pair-index_of, index_rises, none_below, stands}

abbrev InKeys : List (List Value) → List Value → Bool
InKeys = is_in key_cmp_total key_cmp-IsAntisymmetric

same_test : {A B : Type 0} (b : Bool) (x : A) (y : B) (xs : Option A) (ys : Option B) → is_some xs ≡ is_some ys → is_some (cond b (Some x) xs) ≡ is_some (cond b (Some y) ys)
same_test true x y xs ys e = refl
same_test false x y xs ys e = e

module _ (value : List Value) where
  -- the keys of a value are those of its pairs
  in_keys : (pairs : List Pair) (key : List Value) → InKeys (keys_with pairs value) key ≡ has_pair pairs (value, key)
  in_keys [] key = refl
  in_keys (x ∷ xs) key = elim (cases_Bool (is_eq (key_cmp x.0 value))) [
    | inl tied ↦ rw (equal_from_test _ tied) (same_test (is_eq (key_cmp x.1 key)) x.1 x _ _ (in_keys xs key))
    | inr apart ↦
        let other = first_apart (key_cmp x.0 value) (key_cmp x.1 key) apart in
        rw (apart, other) (in_keys xs key)
  ]

  first_key : (x : Pair) (xs : List Pair) → is_map pair_cmp itself (x ∷ xs) ≡ true → key_cmp x.0 value ≡ Equal → first_is (λ key. is_lt (key_cmp x.1 key)) (keys_with xs value) ≡ true
  first_key x [] h level = refl
  first_key x (y ∷ ys) h level = elim (cases_Bool (is_eq (key_cmp y.0 value))) [
    | inl tied ↦
        let same : key_cmp x.0 y.0 ≡ Equal = key_cmp_total.congr x.0 value y.0 level ∙ turned_equal key_cmp_total y.0 value (equal_from_test _ tied) in
        let less : ordering_then (key_cmp x.0 y.0) (key_cmp x.1 y.1) ≡ Less = less_from_test _ (and_parts _ _ h).0 in
        let later : key_cmp x.1 y.1 ≡ Less = rw same at less in
        rw tied (ap is_lt later)
    | inr apart ↦ rw apart (first_key x ys (rises_skip pair_cmp_total x y (map itself ys) h) level)
  ]

  -- pairs in order have the keys of a value in order
  keys_rise : (pairs : List Pair) → is_map pair_cmp itself pairs ≡ true → rises key_cmp (keys_with pairs value) ≡ true
  keys_rise [] h = refl
  keys_rise (x ∷ xs) h =
      let rest = keys_rise xs (rises_tail pair_cmp_total x (map itself xs) h) in
      elim (cases_Bool (is_eq (key_cmp x.0 value))) [
        | inl tied ↦ rw tied (rises_cons key_cmp_total x.1 (keys_with xs value) (first_key x xs h (equal_from_test _ tied)) rest)
        | inr apart ↦ rw apart rest
      ]

  module _ (columns : List ℕ) where
    abbrev is_of_value : Entry → Bool
    is_of_value entry = same_key (cells columns entry.1) value

    in_rows : (entries : List Entry) (key : List Value) → is_map key_cmp key_of_entry entries ≡ true → InKeys (map key_of_entry (filter is_of_value entries)) key ≡ stands columns (row_under entries key) value
    in_rows [] key h = refl
    in_rows (e ∷ es) key h =
        let rest = in_rows es key (rises_tail key_cmp_total e.0 (map key_of_entry es) h) in
        elim (cases_Bool (is_eq (key_cmp e.0 key))) [
          | inl tied ↦
              let none : row_under es key ≡ None = none_below key es (rises_alike key_cmp_total e.0 key (map key_of_entry es) (equal_from_test _ tied) h) in
              elim (cases_Bool (is_of_value e)) [
                | inl of ↦ rw (of, tied) (sym of)
                | inr other ↦ rw (other, tied) (rest ∙ ap (λ r. stands columns r value) none ∙ sym other)
              ]
          | inr apart ↦ elim (cases_Bool (is_of_value e)) [
            | inl of ↦ rw (of, apart) rest
            | inr other ↦ rw (other, apart) rest
          ]
        ]

    in_order : (keys : List (List Value)) → rises key_cmp keys ≡ true → is_map key_cmp (λ key. key) keys ≡ true
    in_order keys h = subst (λ ks. rises key_cmp ks ≡ true) (sym (map_itself (λ key. key) (λ key. refl) keys)) h

    pub keys_with-index_of : (entries : List Entry) → is_map key_cmp key_of_entry entries ≡ true → keys_with (index_of columns entries) value ≡ map key_of_entry (filter is_of_value entries)
    keys_with-index_of entries h =
        same_from_members key_cmp_total key_cmp-IsAntisymmetric (keys_with (index_of columns entries) value) (map key_of_entry (filter is_of_value entries))
        (in_order (keys_with (index_of columns entries) value) (keys_rise (index_of columns entries) (index_rises columns entries h)))
        (in_order (map key_of_entry (filter is_of_value entries)) (rises-filter key_cmp_total key_of_entry is_of_value entries h))
        (λ key. in_keys (index_of columns entries) key ∙ has_pair-index_of columns entries (value, key) h ∙ sym (in_rows entries key h))
