-- The keys that pairs in order have with a value: where the pairs of the value begin, and where they end.
use Rattle.std.proofs.Common.{◌≡◌, ℕ, zero, suc, ◌+◌, ◌<◌, Bool, true, false, List, [], ◌∷◌, ◌++◌, map, filter, length, get_or, take, drop, Ordering, Less, Equal, Greater, refl, sym, ap, subst, ◌∙◌, inl, inr, arith, is_lt, is_eq, append_assoc, IsTrue}
use Rattle.std.specs.List.{list_all}
use Rattle.std.specs.List.Sorted.{IsPartitionPoint, IsPartitionedBy}
use Rattle.std.specs.Ordering.{ordering_then, is_gt}
use Rattle.std.proofs.lemmas.Bool.{and_parts, cases_lt, false≢true}
use Rattle.std.proofs.lemmas.List.{append-nil, map-append, take-append-drop, take_more, drop_more}
use Rattle.std.proofs.lemmas.List.Concat.{flat_map-append}
use Rattle.std.proofs.lemmas.List.Elements.{filter-append}
use Rattle.bf_base.specs.declared.value.Value.{Value}
use Rattle.bf_base.specs.Lists.{same_key}
use Rattle.bf_base.specs.Maps.{is_map}
use Rattle.bf_base.specs.Values.{key_cmp, key_cmp_total, key_cmp-IsAntisymmetric}
use Rattle.bf_base.proofs.Order.{less_from_rises, less_from_test, rises_skip, rises_tail, turned, turned_less}
use Rattle.bf_base.proofs.Ties.{key_ties}
use Rattle.bf_heap.specs.Pages.{is_used_page, page_at}
use Rattle.bf_heap.proofs.Flat.{rises_right}
use Rattle.bf_heap.proofs.Places.{some_rows}
use Rattle.bf_index.specs.Pages.{pairs_of, begins_above, begins_behind, IsPageOf}
use Rattle.bf_index.specs.Pairs.{Pair, itself, keys_with, pair_cmp}
use Rattle.bf_index.proofs.Orders.{pair_cmp_total, pair_cmp-IsAntisymmetric}
use Rattle.bf_index.proofs.Places.{greater_from_test}

pub keys_with-append : (xs ys : List Pair) (value : List Value) → keys_with (xs ++ ys) value ≡ keys_with xs value ++ keys_with ys value
keys_with-append xs ys value =
    ap (map (λ (p : Pair). p.1)) (filter-append (λ (p : Pair). same_key p.0 value) xs ys)
    ∙ map-append (λ (p : Pair). p.1) (filter (λ p. same_key p.0 value) xs) (filter (λ p. same_key p.0 value) ys)

module _ (value : List Value) where
  abbrev pub is_below : Pair → Bool
  is_below pair = is_lt (key_cmp pair.0 value)

  -- a pair before one of a lesser value is of a lesser value
  still_below : (a b : Pair) → pair_cmp a b ≡ Less → is_below b ≡ true → is_below a ≡ true
  still_below a b less h = elim (key_cmp a.0 b.0) as (λ r. key_cmp a.0 b.0 ≡ r → ordering_then r (key_cmp a.1 b.1) ≡ Less → is_below a ≡ true) [
    | Less ↦ λ e _. ap is_lt (key_cmp_total.trans a.0 b.0 value e (less_from_test _ h))
    | Equal ↦ λ e _. ap is_lt (key_cmp_total.congr a.0 b.0 value e) ∙ h
    | Greater ↦ λ e l. absurd cc
  ] refl less

  -- and one behind a greater value is of a greater value
  still_above : (a b : Pair) → pair_cmp a b ≡ Less → key_cmp a.0 value ≡ Greater → key_cmp b.0 value ≡ Greater
  still_above a b less h = elim (key_cmp a.0 b.0) as (λ r. key_cmp a.0 b.0 ≡ r → ordering_then r (key_cmp a.1 b.1) ≡ Less → key_cmp b.0 value ≡ Greater) [
    | Less ↦ λ e _. turned_less key_cmp_total value b.0 (key_cmp_total.trans value a.0 b.0 (turned key_cmp_total a.0 value h) e)
    | Equal ↦ λ e _. sym (key_cmp_total.congr a.0 b.0 value e) ∙ h
    | Greater ↦ λ e l. absurd cc
  ] refl less

  -- a search finds the place up to which pairs in order are of lesser values
  pub parted : (xs : List Pair) → is_map pair_cmp itself xs ≡ true → IsPartitionedBy is_below xs
  parted xs h i j d le below passes = elim (cases_lt i j) [
    | inl lt ↦ still_below (get_or xs i d) (get_or xs j d) (less_from_rises pair_cmp_total itself xs i j d h lt below) passes
    | inr ge ↦ let same : i ≡ j = omega arith in rw same passes
  ]

  abbrev pub BeginsAt : List Pair → ℕ → Type 0
  BeginsAt xs n = IsPartitionPoint (λ pair. is_below pair ≡ true) (λ pair. is_below pair ≡ false) xs n

  not_same : (r : Ordering) → is_lt r ≡ true → is_eq r ≡ false
  not_same Less h = refl
  not_same Equal h = absurd (false≢true h)
  not_same Greater h = refl

  none_before : (xs : List Pair) (n : ℕ) → BeginsAt xs n → keys_with (take n xs) value ≡ []
  none_before [] zero at = refl
  none_before [] (suc n) at = refl
  none_before (x ∷ xs) zero at = refl
  none_before (x ∷ xs) (suc n) at =
      let first = not_same (key_cmp x.0 value) (at.0 0 x (omega arith) (omega arith)) in
      rw first (none_before xs n (λ k d low high. at.0 (suc k) d (omega arith) (omega arith), λ k d low high. at.1 (suc k) d (omega arith) (omega arith)))

  none_above : (x : Pair) (xs : List Pair) → is_map pair_cmp itself (x ∷ xs) ≡ true → key_cmp x.0 value ≡ Greater → keys_with (x ∷ xs) value ≡ []
  none_above x [] h above = rw above refl
  none_above x (y ∷ ys) h above =
      let rest = none_above y ys (and_parts _ _ h).1 (still_above x y (less_from_test _ (and_parts _ _ h).0) above) in
      rw above rest

  -- the pairs of the value are among those from the place on
  pub keys_from : (xs : List Pair) (n : ℕ) → BeginsAt xs n → keys_with (drop n xs) value ≡ keys_with xs value
  keys_from xs n at =
      sym (ap (λ ps. keys_with ps value) (sym (take-append-drop n xs)) ∙ keys_with-append (take n xs) (drop n xs) value ∙ ap (λ ks. ks ++ keys_with (drop n xs) value) (none_before xs n at))

  -- and none from the place on is of a lesser value
  pub from_place : (xs : List Pair) (n i : ℕ) (d : Pair) → BeginsAt xs n → i < length (drop n xs) → is_below (get_or (drop n xs) i d) ≡ false
  from_place [] zero i d at within = absurd (omega arith)
  from_place [] (suc n) i d at within = absurd (omega arith)
  from_place (x ∷ xs) zero i d at within = at.1 i d (omega arith) within
  from_place (x ∷ xs) (suc n) i d at within =
      from_place xs n i d (λ k e low high. at.0 (suc k) e (omega arith) (omega arith), λ k e low high. at.1 (suc k) e (omega arith) (omega arith)) within

  -- neither lesser nor the same is greater
  pub above_from : (pair : Pair) → is_below pair ≡ false → (pair.0 ≡ value → ⊥) → key_cmp pair.0 value ≡ Greater
  above_from pair not_below other = elim (key_cmp pair.0 value) as (λ r. key_cmp pair.0 value ≡ r → is_lt r ≡ false → r ≡ Greater) [
    | Less ↦ λ e h. absurd (false≢true (sym h))
    | Equal ↦ λ e h. absurd (other (key_cmp-IsAntisymmetric pair.0 value e))
    | Greater ↦ λ e h. refl
  ] refl not_below

  -- the key of one more pair of the value
  pub keys_more : (xs : List Pair) (i : ℕ) (pair : Pair) → i < length xs → pair ≡ get_or xs i pair → pair.0 ≡ value → (before keys : List (List Value)) → keys ≡ before ++ keys_with (take i xs) value → keys ++ pair.1 ∷ [] ≡ before ++ keys_with (take (i + 1) xs) value
  keys_more xs i pair within is same before keys so_far =
      let tied = (key_ties pair.0 value).1 same in
      let one : keys_with (pair ∷ []) value ≡ pair.1 ∷ [] = rw tied refl in
      let front : take (i + 1) xs ≡ take i xs ++ pair ∷ [] = take_more xs i pair within ∙ ap (λ (p : Pair). take i xs ++ p ∷ []) (sym is) in
      let all : keys_with (take (i + 1) xs) value ≡ keys_with (take i xs) value ++ pair.1 ∷ [] = ap (λ ps. keys_with ps value) front ∙ keys_with-append (take i xs) (pair ∷ []) value ∙ ap (λ ks. keys_with (take i xs) value ++ ks) one in
      ap (λ ks. ks ++ pair.1 ∷ []) so_far ∙ append_assoc before (keys_with (take i xs) value) (pair.1 ∷ []) ∙ ap (λ ks. before ++ ks) (sym all)

  -- no pair behind one of a greater value is of the value
  pub keys_end : (xs : List Pair) (i : ℕ) (d : Pair) → is_map pair_cmp itself xs ≡ true → i < length xs → key_cmp (get_or xs i d).0 value ≡ Greater → keys_with (take i xs) value ≡ keys_with xs value
  keys_end xs i d h within above =
      let rest = drop_more xs i d within in
      let behind = rises_right pair_cmp_total itself (take i xs) (drop i xs) (subst (λ ps. is_map pair_cmp itself ps ≡ true) (sym (take-append-drop i xs)) h) in
      let none = none_above (get_or xs i d) (drop (i + 1) xs) (subst (λ ps. is_map pair_cmp itself ps ≡ true) rest behind) above in
      no_more (take i xs) (drop i xs) (ap (λ ps. keys_with ps value) rest ∙ none) ∙ ap (λ ps. keys_with ps value) (take-append-drop i xs)
    where
      no_more : (front behind : List Pair) → keys_with behind value ≡ [] → keys_with front value ≡ keys_with (front ++ behind) value
      no_more front behind none = sym (keys_with-append front behind value ∙ ap (λ ks. keys_with front value ++ ks) none ∙ append-nil (keys_with front value))

  -- pairs before one that does not come behind the least pair of the value
  less_before : (x y : Pair) (xs ys : List Pair) → is_map pair_cmp itself (x ∷ (xs ++ y ∷ ys)) ≡ true → pair_cmp x y ≡ Less
  less_before x y [] ys h = less_from_test _ (and_parts _ _ h).0
  less_before x y (z ∷ xs) ys h = less_before x y xs ys (rises_skip pair_cmp_total x z (map itself (xs ++ y ∷ ys)) h)

  not_before_none : (key : List Value) → key_cmp key [] ≡ Less → ⊥
  not_before_none [] e = cc
  not_before_none (k ∷ ks) e = cc

  lesser : (x y z : Pair) → pair_cmp x y ≡ Less → is_gt (pair_cmp y z) ≡ false → pair_cmp x z ≡ Less
  lesser x y z less no_more = elim (pair_cmp y z) as (λ r. pair_cmp y z ≡ r → is_gt r ≡ false → pair_cmp x z ≡ Less) [
    | Less ↦ λ e h. pair_cmp_total.trans x y z less e
    | Equal ↦ λ e h. ap (pair_cmp x) (sym (pair_cmp-IsAntisymmetric y z e)) ∙ less
    | Greater ↦ λ e h. absurd (false≢true (sym h))
  ] refl no_more

  before_least : (x : Pair) → pair_cmp x (value, []) ≡ Less → same_key x.0 value ≡ false
  before_least x less = elim (key_cmp x.0 value) as (λ r. ordering_then r (key_cmp x.1 []) ≡ Less → is_eq r ≡ false) [
    | Less ↦ λ e. refl
    | Equal ↦ λ e. absurd (not_before_none x.1 e)
    | Greater ↦ λ e. refl
  ] less

  front_none : (front behind : List Pair) (y : Pair) → is_map pair_cmp itself (front ++ y ∷ behind) ≡ true → is_gt (pair_cmp y (value, [])) ≡ false → keys_with front value ≡ []
  front_none [] behind y h begins = refl
  front_none (x ∷ xs) behind y h begins =
      let apart = before_least x (lesser x y (value, []) (less_before x y xs behind h) begins) in
      rw apart (front_none xs behind y (rises_tail pair_cmp_total x (map itself (xs ++ y ∷ behind)) h) begins)

  before_page : (front page behind : List Pair) → 0 < length page → is_map pair_cmp itself (front ++ (page ++ behind)) ≡ true → begins_behind (value, []) page ≡ false → keys_with front value ≡ []
  before_page front [] behind some h begins = absurd (omega arith)
  before_page front (y ∷ ys) behind some h begins = front_none front (ys ++ behind) y h begins

  from_page : (page behind : List Pair) → is_map pair_cmp itself (page ++ behind) ≡ true → begins_above value page ≡ true → keys_with (page ++ behind) value ≡ []
  from_page [] behind h above = absurd (false≢true above)
  from_page (y ∷ ys) behind h above = none_above y (ys ++ behind) h (greater_from_test _ above)

  pub parts : (pages : List (List Pair)) (n : ℕ) → pairs_of pages ≡ pairs_of (take n pages) ++ pairs_of (drop n pages)
  parts pages n = ap pairs_of (sym (take-append-drop n pages)) ∙ flat_map-append (λ (page : List Pair). page) (take n pages) (drop n pages)

  pub rises_from : (pages : List (List Pair)) (n : ℕ) → is_map pair_cmp itself (pairs_of pages) ≡ true → is_map pair_cmp itself (pairs_of (drop n pages)) ≡ true
  rises_from pages n h = rises_right pair_cmp_total itself (pairs_of (take n pages)) (pairs_of (drop n pages)) (subst (λ ps. is_map pair_cmp itself ps ≡ true) (parts pages n) h)

  -- the pairs of the value are among those from the page on that the search gives
  pub pages_from : (pages : List (List Pair)) (n : ℕ) → is_map pair_cmp itself (pairs_of pages) ≡ true → IsTrue (list_all is_used_page pages) → IsPageOf pages (value, []) n → keys_with (pairs_of (drop n pages)) value ≡ keys_with (pairs_of pages) value
  pages_from pages zero h used at = refl
  pages_from pages (suc n) h used at =
      let rest : pairs_of (drop (suc n) pages) ≡ page_at pages (suc n) ++ pairs_of (drop (suc n + 1) pages) = ap pairs_of (drop_more pages (suc n) [] at.within) in
      let split = parts pages (suc n) in
      let in_order = subst (λ ps. is_map pair_cmp itself ps ≡ true) (split ∙ ap (λ ps. pairs_of (take (suc n) pages) ++ ps) rest) h in
      let none = before_page (pairs_of (take (suc n) pages)) (page_at pages (suc n)) (pairs_of (drop (suc n + 1) pages)) (some_rows pages (suc n) used at.within) in_order (at.begins (omega arith)) in
      sym (ap (λ ps. keys_with ps value) split ∙ keys_with-append (pairs_of (take (suc n) pages)) (pairs_of (drop (suc n) pages)) value ∙ ap (λ ks. ks ++ keys_with (pairs_of (drop (suc n) pages)) value) none)

  -- and before a page of greater values
  pub pages_end : (pages : List (List Pair)) (i : ℕ) → is_map pair_cmp itself (pairs_of pages) ≡ true → i < length pages → begins_above value (get_or pages i []) ≡ true → keys_with (pairs_of (take i pages)) value ≡ keys_with (pairs_of pages) value
  pages_end pages i h within above =
      let rest : pairs_of (drop i pages) ≡ get_or pages i [] ++ pairs_of (drop (i + 1) pages) = ap pairs_of (drop_more pages i [] within) in
      let none = from_page (get_or pages i []) (pairs_of (drop (i + 1) pages)) (subst (λ ps. is_map pair_cmp itself ps ≡ true) rest (rises_from pages i h)) above in
      sym (ap (λ ps. keys_with ps value) (parts pages i) ∙ keys_with-append (pairs_of (take i pages)) (pairs_of (drop i pages)) value
      ∙ ap (λ ks. keys_with (pairs_of (take i pages)) value ++ ks) (ap (λ ps. keys_with ps value) rest ∙ none)
      ∙ append-nil (keys_with (pairs_of (take i pages)) value))
