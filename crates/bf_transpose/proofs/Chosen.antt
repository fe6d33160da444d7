-- The positions that an index finds, in the order of positions.
use Rattle.std.proofs.Common.{◌≡◌, ℕ, suc, ◌+◌, ◌<◌, Bool, true, false, cond, List, [], ◌∷◌, ◌++◌, filter, length, map, get_or, take, Option, Some, refl, sym, ap, ◌∙◌, arith}
use Rattle.std.specs.Prelude.{position, slice_get}
use Rattle.std.specs.List.{cons_option, range_with_len}
use Rattle.std.proofs.lemmas.Bool.{false≢true}
use Rattle.std.proofs.lemmas.Cmp.{tied_itself}
use Rattle.std.proofs.lemmas.List.{take_more}
use Rattle.std.proofs.lemmas.List.Elements.{filter_map-append}
use Rattle.std.proofs.lemmas.Option.{get_or_from_slice_get, slice_get_within}
use Rattle.bf_base.specs.declared.value.Value.{Value}
use Rattle.bf_base.specs.Lists.{same_key}
use Rattle.bf_base.specs.Maps.{is_map}
use Rattle.bf_base.specs.Values.{key_cmp, key_cmp_total}
use Rattle.bf_heap.specs.Heaps.{Entry, key_of_entry}
use Rattle.bf_heap.proofs.Positions.{position_is}
use Rattle.bf_transpose.specs.Positions.{positions_under}

module _ (entries : List Entry) (in_order : is_map key_cmp key_of_entry entries ≡ true) where
  abbrev place_of : List Value → Option ℕ
  place_of key = position (λ (e : Entry). same_key key e.0) entries

  -- a row stands at its place
  own_place : (k : ℕ) (e : Entry) → slice_get entries k ≡ Some e → place_of e.0 ≡ Some k
  own_place k e there =
      let here = get_or_from_slice_get entries k e e there in
      position_is e.0 entries k e in_order (slice_get_within entries k e there) (ap (λ (f : Entry). key_cmp f.0 e.0) here ∙ tied_itself key_cmp_total e.0)

  module _ (kept : Entry → Bool) (test : ℕ → Bool) where
    -- entries that stand from a position on
    pub chosen_from : (k : ℕ) (rest : List Entry) → ((i : ℕ) (e : Entry) → slice_get rest i ≡ Some e → slice_get entries (k + i) ≡ Some e)
        → ((at : ℕ) (e : Entry) → slice_get entries at ≡ Some e → test at ≡ true → kept e ≡ true)
        → filter test (positions_under entries (map key_of_entry (filter kept rest))) ≡ filter test (range_with_len k (length rest))
    chosen_from k [] stand all = refl
    chosen_from k (e ∷ rest) stand all =
        of (kept e) refl (test k) refl (chosen_from (k + 1) rest (λ i f at. let next : k + 1 + i ≡ k + suc i = omega arith in ap (slice_get entries) next ∙ stand (suc i) f at) all)
      where
        none_more : k + 0 ≡ k
        none_more = omega arith

        here : slice_get entries k ≡ Some e
        here = ap (slice_get entries) (sym none_more) ∙ stand 0 e refl

        of : (b : Bool) → kept e ≡ b → (c : Bool) → test k ≡ c
            → filter test (positions_under entries (map key_of_entry (filter kept rest))) ≡ filter test (range_with_len (k + 1) (length rest))
            → filter test (positions_under entries (map key_of_entry (cond b (e ∷ filter kept rest) (filter kept rest)))) ≡ cond (test k) (k ∷ filter test (range_with_len (k + 1) (length rest))) (filter test (range_with_len (k + 1) (length rest)))
        of true is c passes behind =
            ap (λ o. filter test (cons_option o (positions_under entries (map key_of_entry (filter kept rest))))) (own_place k e here)
            ∙ ap (λ ps. cond (test k) (k ∷ ps) ps) behind
        of false is true passes behind = absurd (false≢true (sym is ∙ all k e here passes))
        of false is false passes behind = behind ∙ ap (λ b. cond b (k ∷ filter test (range_with_len (k + 1) (length rest))) (filter test (range_with_len (k + 1) (length rest)))) (sym passes)

    -- CHOSEN: where only entries that are kept pass a test, the test finds the same positions among theirs as among all
    pub chosen : ((at : ℕ) (e : Entry) → slice_get entries at ≡ Some e → test at ≡ true → kept e ≡ true)
        → filter test (positions_under entries (map key_of_entry (filter kept entries))) ≡ filter test (range_with_len 0 (length entries))
    chosen all = chosen_from 0 entries (λ i e at. let same : 0 + i ≡ i = omega arith in ap (slice_get entries) same ∙ at) all

-- the positions of one key more
module _ (entries : List Entry) (keys : List (List Value)) (i : ℕ) (below : i < length keys) where
  pub positions_more : (key : List Value) (o : Option ℕ) → get_or keys i key ≡ key → position (λ (e : Entry). same_key key e.0) entries ≡ o
      → positions_under entries (take (i + 1) keys) ≡ positions_under entries (take i keys) ++ cons_option o []
  positions_more key o is there =
      ap (positions_under entries) (take_more keys i key below)
      ∙ (filter_map-append (λ (key : List Value). position (λ (e : Entry). same_key key e.0) entries) (take i keys) (get_or keys i key ∷ [])
      ∙ (ap (λ k. positions_under entries (take i keys) ++ positions_under entries (k ∷ [])) is ∙ ap (λ p. positions_under entries (take i keys) ++ cons_option p []) there))
