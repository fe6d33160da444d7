-- The rows under the keys that an index has with a value are those that have the value.
use Rattle.std.proofs.Common.{◌≡◌, ℕ, Bool, true, List, [], ◌∷◌, ◌++◌, filter, Less, Option, Some, None, option_map, refl, ap, ◌∙◌, inl, inr}
use Rattle.std.specs.List.{cons_option}
use Rattle.std.specs.Option.{option_to_list}
use Rattle.std.proofs.lemmas.Bool.{and_parts, cases_Bool}
use Rattle.std.proofs.lemmas.Cmp.{tied_itself}
use Rattle.bf_base.specs.declared.value.Value.{Value}
use Rattle.bf_base.specs.Lists.{same_key}
use Rattle.bf_base.specs.Maps.{is_map}
use Rattle.bf_base.specs.Tables.{cells}
use Rattle.bf_base.specs.Values.{key_cmp, key_cmp_total}
use Rattle.bf_base.proofs.Order.{less_from_test, rises_skip, rises_tail}
use Rattle.bf_heap.specs.Heaps.{Entry, key_of_entry, row_under}
use Rattle.bf_index.specs.Edits.{index_of}
use Rattle.bf_index.specs.Pairs.{keys_with}
use Rattle.bf_index.proofs.Keys.{keys_with-index_of}
use Rattle.bf_access.specs.ByIndex.{entries_at, entries_with}
use Rattle.bf_index.proofs.Rising.{RisesFrom, keys_of}

module _ (keep : Entry → Bool) where
  -- an entry before others is not under their keys
  entries_behind : (e : Entry) (es others : List Entry) → RisesFrom e.0 (keys_of others) → entries_at (e ∷ es) (keys_of (filter keep others)) ≡ entries_at es (keys_of (filter keep others))
  entries_behind e es [] h = refl
  entries_behind e es (x ∷ others) h =
      let less : key_cmp e.0 x.0 ≡ Less = less_from_test _ (and_parts _ _ h).0 in
      let rest = entries_behind e es others (rises_skip key_cmp_total e.0 x.0 (keys_of others) h) in
      elim (cases_Bool (keep x)) [
        | inl stays ↦ rw (stays, less, rest) refl
        | inr goes ↦ rw goes rest
      ]

  pub entries_at-keys : (entries : List Entry) → is_map key_cmp key_of_entry entries ≡ true → entries_at entries (keys_of (filter keep entries)) ≡ filter keep entries
  entries_at-keys [] h = refl
  entries_at-keys (e ∷ es) h =
      let rest = entries_behind e es es h ∙ entries_at-keys es (rises_tail key_cmp_total e.0 (keys_of es) h) in
      elim (cases_Bool (keep e)) [
        | inl stays ↦ rw (stays, tied_itself key_cmp_total e.0) (ap (λ es. e ∷ es) rest)
        | inr goes ↦ rw goes rest
      ]

-- one more key
pub entries_at-last : (entries : List Entry) (keys : List (List Value)) (key : List Value) (found : Option (List Value)) → row_under entries key ≡ found → entries_at entries (keys ++ key ∷ []) ≡ entries_at entries keys ++ option_to_list (option_map (λ row. (key, row)) found)
entries_at-last entries [] key found is = rw is (elim found as (λ o. cons_option {X = Entry} (option_map (λ row. (key, row)) o) [] ≡ [] ++ option_to_list (option_map (λ row. (key, row)) o)) [ None ↦ refl | Some row ↦ refl ])
entries_at-last entries (k ∷ keys) key found is =
    let rest = entries_at-last entries keys key found is in
    elim (row_under entries k) as (λ o. cons_option {X = Entry} (option_map (λ row. (k, row)) o) (entries_at entries (keys ++ key ∷ [])) ≡ cons_option {X = Entry} (option_map (λ row. (k, row)) o) (entries_at entries keys) ++ option_to_list (option_map (λ row. (key, row)) found)) [
      | None ↦ rest
      | Some row ↦ ap (λ (es : List Entry). (k, row) ∷ es) rest
    ]

-- the rows under the keys that the index of a table's rows has with a value are those that have it
pub entries_at-index : (columns : List ℕ) (value : List Value) (entries : List Entry) → is_map key_cmp key_of_entry entries ≡ true → entries_at entries (keys_with (index_of columns entries) value) ≡ entries_with columns value entries
entries_at-index columns value entries h =
    ap (entries_at entries) (keys_with-index_of value columns entries h)
    ∙ entries_at-keys (λ e. same_key (cells columns e.1) value) entries h
