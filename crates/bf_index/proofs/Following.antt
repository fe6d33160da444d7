-- An index is built from the rows of a heap, and follows an edit of them.
use Rattle.std.proofs.Common.{◌≡◌, ℕ, ◌+◌, ◌<◌, ◌≤◌, ◌≢◌, Bool, true, false, ◌||◌, List, [], ◌∷◌, length, map, fold, set, get_or, Option, Some, None, slice_get, refl, sym, ap, subst, ◌∙◌, inl, inr, arith, is_eq, get_or-set_other}
use Rattle.std.specs.List.{All, AllWithin, remove}
use Rattle.std.specs.Ordering.{eq_by_cmp}
use Rattle.std.proofs.lemmas.Bool.{cases_Bool}
use Rattle.std.proofs.lemmas.Cmp.{tied_itself}
use Rattle.std.proofs.lemmas.List.{length-set}
use Rattle.std.proofs.lemmas.List.Edits.{length-remove, get_or-remove_below, get_or-remove_above}
use Rattle.std.proofs.lemmas.List.Elements.{All-nil, All-cons, All-head, All-tail, AllWithin-more_set}
use Rattle.bf_base.specs.declared.value.Value.{Value}
use Rattle.bf_base.specs.Lists.{has}
use Rattle.bf_base.specs.Maps.{is_map}
use Rattle.bf_base.specs.Tables.{cell, cells}
use Rattle.bf_base.specs.Values.{key_cmp, key_cmp_total}
use Rattle.bf_base.proofs.Maps.{is_map-with_entry, is_map-without_key}
use Rattle.bf_base.proofs.Order.{equal_from_test, has-with_placed, is_some-look_up, symmetric}
use Rattle.bf_heap.specs.Heaps.{Entry, key_of_entry, row_under}
use Rattle.bf_index.specs.Edits.{HasFormer, IsIndexOf, edit_to, index_of, pair_of, pairs_moved, rows_after}
use Rattle.bf_index.specs.Edits.RowEdit.{put, remove as removal}
use Rattle.bf_index.specs.Pairs.{Pair, PairSet, has_pair, itself, pair_cmp, with_pair, without_pair}
use Rattle.bf_index.proofs.Members.{has_pair-with_pair, has_pair-without_pair, same_from_members}
use Rattle.bf_index.proofs.Orders.{pair_cmp_total, pair_cmp-IsAntisymmetric}
use Rattle.bf_index.proofs.Upkeep.{has_pair-index_of, index_rises, one_edit, stands}

-- two rows are the same at some columns if they are so at each
pub cells_from_all : (columns : List ℕ) (row other : List Value) → All (λ column. cell row column ≡ cell other column) columns → cells columns row ≡ cells columns other
cells_from_all [] row other same = refl
cells_from_all (column ∷ columns) row other same =
    let first : cell row column ≡ cell other column = All-head (λ column. cell row column ≡ cell other column) column columns same in
    let rest : cells columns row ≡ cells columns other = cells_from_all columns row other (All-tail (λ column. cell row column ≡ cell other column) column columns same) in
    cc

pub all_from_cells : (columns : List ℕ) (row other : List Value) → cells columns row ≡ cells columns other → All (λ column. cell row column ≡ cell other column) columns
all_from_cells [] row other same = All-nil (λ column. cell row column ≡ cell other column)
all_from_cells (column ∷ columns) row other same =
    All-cons (λ column. cell row column ≡ cell other column) column columns (cc) (all_from_cells columns row other (cc))

-- a pair that is taken and put back leaves the set
pub put_back : (pairs : List Pair) (pair : Pair) → is_map pair_cmp itself pairs ≡ true → has_pair pairs pair ≡ true → with_pair (without_pair pairs pair) pair ≡ pairs
put_back pairs pair h there =
    same_from_members pair_cmp_total pair_cmp-IsAntisymmetric (with_pair (without_pair pairs pair) pair) pairs
    (is_map-with_entry pair_cmp_total itself (without_pair pairs pair) pair (is_map-without_key pair_cmp_total itself pairs pair h)) h
    (λ other. has_pair-with_pair (without_pair pairs pair) pair other
    ∙ ap (λ b. is_eq (pair_cmp pair other) || b) (has_pair-without_pair pairs pair other)
    ∙ elim (cases_Bool (is_eq (pair_cmp pair other))) [
      | inl tied ↦ rw tied (sym (ap (has_pair pairs) (sym (pair_cmp-IsAntisymmetric pair other (equal_from_test _ tied))) ∙ there))
      | inr apart ↦ rw apart refl
    ])

module _ (entries : List Entry) (key : List Value) (h : is_map key_cmp key_of_entry entries ≡ true) where
  -- an index of the rows has the pair of the one that stands under the key
  pub has_former : (index : PairSet) (former : Option (List Value)) → IsIndexOf entries index → former ≡ row_under entries key → HasFormer index key former
  has_former index None is e = tt
  has_former index (Some row) is e =
      ap (λ pairs. has_pair pairs (pair_of index.columns (key, row))) is
      ∙ has_pair-index_of index.columns entries (pair_of index.columns (key, row)) h
      ∙ ap (λ r. stands index.columns r (cells index.columns row)) (sym e)
      ∙ ap is_eq (tied_itself key_cmp_total (cells index.columns row))

  moved_to : (columns : List ℕ) (row : Option (List Value)) → pairs_moved columns (index_of columns entries) key (row_under entries key) row ≡ index_of columns (rows_after entries (edit_to key row))
  moved_to columns None = one_edit columns entries h (removal key)
  moved_to columns (Some row) = one_edit columns entries h (put key row)

  -- and once its pairs are moved it is that of the edited rows
  pub moved : (index now : PairSet) (former row : Option (List Value)) → IsIndexOf entries index → former ≡ row_under entries key → now.columns ≡ index.columns → now.pairs ≡ pairs_moved index.columns index.pairs key former row
      → IsIndexOf (rows_after entries (edit_to key row)) now
  moved index now former row is former_is columns_are pairs_are =
      pairs_are
      ∙ ap (λ pairs. pairs_moved index.columns pairs key former row) is
      ∙ ap (λ former. pairs_moved index.columns (index_of index.columns entries) key former row) former_is
      ∙ moved_to index.columns row
      ∙ ap (λ columns. index_of columns (rows_after entries (edit_to key row))) (sym columns_are)

has_pair-fold : (pairs more : List Pair) (pair : Pair) → has_pair (fold with_pair pairs more) pair ≡ (has_pair pairs pair || has (eq_by_cmp pair_cmp) (map itself more) pair)
has_pair-fold pairs [] pair = elim (has_pair pairs pair) as (λ b. b ≡ (b || false)) [ true ↦ refl | false ↦ refl ]
has_pair-fold pairs (new ∷ more) pair =
    has_pair-fold (with_pair pairs new) more pair
    ∙ ap (λ b. b || has (eq_by_cmp pair_cmp) (map itself more) pair) (has_pair-with_pair pairs new pair)
    ∙ regrouped _ _ _ _ (symmetric pair_cmp_total new pair)
  where
    regrouped : (a b c d : Bool) → a ≡ d → ((a || b) || c) ≡ (b || (d || c))
    regrouped true true c d e = refl
    regrouped true false c d e = ap (λ d. d || c) e
    regrouped false true c d e = refl
    regrouped false false c d e = ap (λ d. d || c) e

fold_rises : (pairs more : List Pair) → is_map pair_cmp itself pairs ≡ true → is_map pair_cmp itself (fold with_pair pairs more) ≡ true
fold_rises pairs [] h = h
fold_rises pairs (new ∷ more) h = fold_rises (with_pair pairs new) more (is_map-with_entry pair_cmp_total itself pairs new h)

-- the pairs of the rows, added one by one, are the index of the rows
pub built : (columns : List ℕ) (entries : List Entry) → is_map key_cmp key_of_entry entries ≡ true → fold with_pair [] (map (pair_of columns) entries) ≡ index_of columns entries
built columns entries h =
    let pairs = map (pair_of columns) entries in
    same_from_members pair_cmp_total pair_cmp-IsAntisymmetric (fold with_pair [] pairs) (index_of columns entries) (fold_rises [] pairs refl) (index_rises columns entries h) (λ pair.
    has_pair-fold [] pairs pair
    ∙ sym (is_some-look_up pair_cmp_total itself (index_of columns entries) pair ∙ has-with_placed pair_cmp_total itself [] pairs pair))

-- nothing is ahead where no first row is
pub none_ahead : {X : Type 0} (xs : List X) → slice_get xs 0 ≡ None → xs ≡ []
none_ahead [] e = refl
none_ahead (x ∷ xs) e = absurd cc

-- items of which those before a place have P, and the others Q
module _ {X : Type 0} (P Q : X → Type 0) (xs : List X) (i : ℕ) (x : X) (within : i < length xs) (before : AllWithin P xs 0 i) (behind : AllWithin Q xs i (length xs)) where
  behind_set : (k : ℕ) (d : X) → i + 1 ≤ k → k < length xs → Q (get_or (set xs i x) k d)
  behind_set k d low high =
      let other : k ≢ i = omega arith in
      subst Q (sym (get_or-set_other xs i k x d other)) (behind k d (omega arith) high)

  -- the item there gets P
  pub one_more : P x → AllWithin P (set xs i x) 0 (i + 1) × AllWithin Q (set xs i x) (i + 1) (length (set xs i x))
  one_more p = (AllWithin-more_set xs i x within P before p, λ k d low high. behind_set k d low (omega (arith, high, length-set xs i x)))

  -- it is taken out
  pub one_less : AllWithin P (remove (set xs i x) i) 0 i × AllWithin Q (remove (set xs i x) i) i (length (remove (set xs i x) i))
  one_less =
      let there : i < length (set xs i x) = omega (arith, within, length-set xs i x) in (
        λ k d low high. let other : k ≢ i = omega arith in subst P (sym (get_or-remove_below (set xs i x) i d k high there ∙ get_or-set_other xs i k x d other)) (before k d low high),
        λ k d low high. subst Q (sym (get_or-remove_above (set xs i x) i d k low there)) (behind_set (k + 1) d (omega arith) (omega (arith, high, length-remove (set xs i x) i there, length-set xs i x))),
      )
