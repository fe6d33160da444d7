-- Lists in the order of a key, over any total order.
use Rattle.std.proofs.Common.{◌≡◌, ℕ, zero, suc, ◌+◌, ◌<◌, Bool, true, false, not, ◌&&◌, ◌||◌, cond, if◌then◌else◌, List, [], ◌∷◌, ◌++◌, map, length, get_or, Ordering, Less, Equal, Greater, refl, sym, ap, subst, ◌∙◌, inl, inr, arith, insert, is_lt, is_eq, set, find, unwrap_or, Option, Some, None, is_some}
use Rattle.std.specs.Cmp.{IsTotalOrder}
use Rattle.std.specs.List.{list_any, list_all}
use Rattle.std.specs.List.Sorted.{IsPartitionPoint, IsNonDecreasingBy}
use Rattle.std.specs.Ordering.{eq_by_cmp, ordering_reverse, ordering_index}
use Rattle.std.proofs.lemmas.Bool.{and_parts, and_from, or_right, not-true, cases_Bool}
use Rattle.std.proofs.lemmas.Cmp.{tied_itself, alike_right, eq_by_cmp_equiv}
use Rattle.std.proofs.lemmas.Grind.{fold-append}
use Rattle.std.proofs.lemmas.List.Folds.{list_any-append}
use Rattle.std.proofs.lemmas.List.Sorted.{searchable_from_sorted}
use Rattle.bf_base.specs.Lists.{rises, placed, with_placed, has, with_before_from, with_before}

-- a test of a list's first item, if it has one
abbrev pub first_is : {K : Type 0} → (K → Bool) → List K → Bool
first_is test [] = true
first_is test (x ∷ xs) = test x

pub less_from_test : (r : Ordering) → is_lt r ≡ true → r ≡ Less
less_from_test r e = grind arith

pub equal_from_test : (r : Ordering) → is_eq r ≡ true → r ≡ Equal
equal_from_test r e = grind arith

some_is_none : {A : Type 0} {x : A} → Some x ≡ None → ⊥
some_is_none e = cc

pub none_from_test : {A : Type 0} (o : Option A) → is_some o ≡ false → o ≡ None
none_from_test None e = refl
none_from_test (Some x) e = absurd cc

pub same_from_some : {A : Type 0} (x y : A) → Some x ≡ Some y → x ≡ y
same_from_some x y e = ap (λ o. unwrap_or o x) e

-- the first item that has a key
abbrev pub look_up : {X K : Type 0} → (K → K → Ordering) → (X → K) → List X → K → Option X
look_up cmp key xs k = find (λ y. eq_by_cmp cmp (key y) k) xs

-- the items, with a change where a key ties
abbrev pub changed_at : {X K : Type 0} → (K → K → Ordering) → (X → K) → (X → X) → K → List X → List X
changed_at cmp key change k xs = map (λ y. if eq_by_cmp cmp (key y) k then change y else y) xs

found_or_behind : {A : Type 0} (x : A) (behind : Option A) (test some_behind : Bool) → is_some behind ≡ some_behind → is_some (cond test (Some x) behind) ≡ (test || some_behind)
found_or_behind x behind true some_behind e = refl
found_or_behind x behind false some_behind e = e

pub list_any-map : {A B : Type 0} (test : B → Bool) (f : A → B) (xs : List A) → list_any test (map f xs) ≡ list_any (λ x. test (f x)) xs
list_any-map test f [] = refl
list_any-map test f (x ∷ xs) = ap (λ b. test (f x) || b) (list_any-map test f xs)

module _ {K : Type 0} {cmp : K → K → Ordering} (o : IsTotalOrder cmp) where
  -- the order, read from the other side
  pub turned : (a b : K) → cmp a b ≡ Greater → cmp b a ≡ Less
  turned a b e = o.antisymm b a ∙ ap ordering_reverse e

  pub turned_less : (a b : K) → cmp a b ≡ Less → cmp b a ≡ Greater
  turned_less a b e = o.antisymm b a ∙ ap ordering_reverse e

  pub turned_equal : (a b : K) → cmp a b ≡ Equal → cmp b a ≡ Equal
  turned_equal a b e = o.antisymm b a ∙ ap ordering_reverse e

  -- neither before nor the same is behind
  behind : (a b : K) → is_lt (cmp a b) ≡ false → is_eq (cmp a b) ≡ false → is_lt (cmp b a) ≡ true
  behind a b p q = grind (arith, turned a b)

  pub symmetric : (a b : K) → eq_by_cmp cmp a b ≡ eq_by_cmp cmp b a
  symmetric = (eq_by_cmp_equiv o).symm

  pub rises_cons : (k : K) (ks : List K) → first_is (λ b. is_lt (cmp k b)) ks ≡ true → rises cmp ks ≡ true → rises cmp (k ∷ ks) ≡ true
  rises_cons k [] e h = refl
  rises_cons k (b ∷ ks) e h = and_from _ _ e h

  pub rises_first : (k : K) (ks : List K) → rises cmp (k ∷ ks) ≡ true → first_is (λ b. is_lt (cmp k b)) ks ≡ true
  rises_first k [] h = refl
  rises_first k (b ∷ ks) h = (and_parts _ _ h).0

  pub rises_tail : (k : K) (ks : List K) → rises cmp (k ∷ ks) ≡ true → rises cmp ks ≡ true
  rises_tail k [] h = refl
  rises_tail k (b ∷ ks) h = (and_parts _ _ h).1

  -- without the second key
  pub rises_skip : (a b : K) (ks : List K) → rises cmp (a ∷ b ∷ ks) ≡ true → rises cmp (a ∷ ks) ≡ true
  rises_skip a b [] h = refl
  rises_skip a b (c ∷ ks) h =
      let first = o.trans a b c (less_from_test _ (and_parts _ _ h).0) (less_from_test _ (and_parts _ _ (and_parts _ _ h).1).0) in
      and_from _ _ (ap is_lt first) (and_parts _ _ (and_parts _ _ h).1).1

  -- with a key that ties with the first
  pub rises_alike : (a b : K) (ks : List K) → cmp a b ≡ Equal → rises cmp (a ∷ ks) ≡ true → rises cmp (b ∷ ks) ≡ true
  rises_alike a b [] e h = refl
  rises_alike a b (c ∷ ks) e h = rw (← o.congr a b c e) h

  module _ {X : Type 0} (key : X → K) where
    first_placed : (k : K) (xs : List X) (x : X) → first_is (λ b. is_lt (cmp k b)) (map key xs) ≡ true → is_lt (cmp k (key x)) ≡ true → first_is (λ b. is_lt (cmp k b)) (map key (placed cmp key xs x)) ≡ true
    first_placed k [] x h e = e
    first_placed k (y ∷ ys) x h e = grind arith

    -- an item with a new key keeps a list in order
    pub rises-placed : (xs : List X) (x : X) → rises cmp (map key xs) ≡ true → has (eq_by_cmp cmp) (map key xs) (key x) ≡ false → rises cmp (map key (placed cmp key xs x)) ≡ true
    rises-placed [] x h n = refl
    rises-placed (y ∷ ys) x h n = grind (arith, behind (key x) (key y), rises_cons (key x) (map key (y ∷ ys)), rises_cons (key y) (map key (placed cmp key ys x)), first_placed (key y) ys x, rises_first (key y) (map key ys) h, rises_tail (key y) (map key ys) h, rises-placed ys x)

    -- a test of some item, or of each, sees an item wherever it is placed
    pub list_any-placed : (test : X → Bool) (xs : List X) (x : X) → list_any test (placed cmp key xs x) ≡ (test x || list_any test xs)
    list_any-placed test [] x = refl
    list_any-placed test (y ∷ ys) x = grind (arith, list_any-placed test ys x)

    pub list_all-placed : (test : X → Bool) (xs : List X) (x : X) → list_all test (placed cmp key xs x) ≡ (test x && list_all test xs)
    list_all-placed test [] x = refl
    list_all-placed test (y ∷ ys) x = grind (arith, list_all-placed test ys x)

    -- an item goes to the place before which all keys are less and from which all are greater
    pub placed-insert : (xs : List X) (i : ℕ) (x : X) → IsPartitionPoint (λ y. cmp (key y) (key x) ≡ Less) (λ y. cmp (key y) (key x) ≡ Greater) xs i → placed cmp key xs x ≡ insert xs i x
    placed-insert [] zero x at = refl
    placed-insert [] (suc i) x at = refl
    placed-insert (y ∷ ys) zero x at = grind (arith, turned (key y) (key x) (at.1 0 x (omega arith) (omega arith)))
    placed-insert (y ∷ ys) (suc i) x at =
        let first = turned_less (key y) (key x) (at.0 0 x (omega arith) (omega arith)) in
        let rest = placed-insert ys i x (λ k d low high. at.0 (suc k) d (omega arith) (omega arith), λ k d low high. at.1 (suc k) d (omega arith) (omega arith)) in
        rw (first, rest) refl

    -- and no item has its key
    pub has-none : (xs : List X) (i : ℕ) (k : K) → IsPartitionPoint (λ y. cmp (key y) k ≡ Less) (λ y. cmp (key y) k ≡ Greater) xs i → has (eq_by_cmp cmp) (map key xs) k ≡ false
    has-none [] i k at = refl
    has-none (y ∷ ys) zero k at =
        let first = turned (key y) k (at.1 0 y (omega arith) (omega arith)) in
        let rest = has-none ys zero k (λ k d low high. absurd (omega arith), λ k d low high. at.1 (suc k) d (omega arith) (omega arith)) in
        rw (first, rest) refl
    has-none (y ∷ ys) (suc i) k at =
        let first = turned_less (key y) k (at.0 0 y (omega arith) (omega arith)) in
        let rest = has-none ys i k (λ k d low high. at.0 (suc k) d (omega arith) (omega arith), λ k d low high. at.1 (suc k) d (omega arith) (omega arith)) in
        rw (first, rest) refl

    -- an item whose key ties is an item with that key
    pub has-at : (xs : List X) (i : ℕ) (k : K) (d : X) → i < length xs → cmp (key (get_or xs i d)) k ≡ Equal → has (eq_by_cmp cmp) (map key xs) k ≡ true
    has-at [] i k d in_range e = absurd (omega arith)
    has-at (y ∷ ys) zero k d in_range e = rw (turned_equal (key y) k e) refl
    has-at (y ∷ ys) (suc i) k d in_range e = or_right _ _ (has-at ys i k d (omega arith) e)

    -- an item has a lesser key than each item behind it
    above_first : (x : X) (xs : List X) → rises cmp (key x ∷ map key xs) ≡ true → (j : ℕ) (d : X) → j < length xs → cmp (key x) (key (get_or xs j d)) ≡ Less
    above_first x [] h j d in_range = absurd (omega arith)
    above_first x (y ∷ ys) h zero d in_range = less_from_test _ (and_parts _ _ h).0
    above_first x (y ∷ ys) h (suc j) d in_range = o.trans _ (key y) _ (less_from_test _ (and_parts _ _ h).0) (above_first y ys (and_parts _ _ h).1 j d (omega arith))

    pub less_from_rises : (xs : List X) (i j : ℕ) (d : X) → rises cmp (map key xs) ≡ true → i < j → j < length xs → cmp (key (get_or xs i d)) (key (get_or xs j d)) ≡ Less
    less_from_rises [] i j d h before in_range = absurd (omega arith)
    less_from_rises (x ∷ xs) i zero d h before in_range = absurd (omega arith)
    less_from_rises (x ∷ xs) zero (suc j) d h before in_range = above_first x xs h j d (omega arith)
    less_from_rises (x ∷ xs) (suc i) (suc j) d h before in_range = less_from_rises xs i j d (rises_tail (key x) (map key xs) h) (omega arith) (omega arith)

    -- what a binary search asks of a list in order
    pub searchable_from_rises : (xs : List X) (k : K) → rises cmp (map key xs) ≡ true → IsNonDecreasingBy (λ y. ordering_index (cmp (key y) k)) xs
    searchable_from_rises xs k h = searchable_from_sorted o key xs k (λ i d low high. ap is_lt (turned_less _ _ (less_from_rises xs i (i + 1) d h (omega arith) high)))

    -- with further items in their places
    pub list_any-with_placed : (test : X → Bool) (ys xs : List X) → list_any test (with_placed cmp key ys xs) ≡ (list_any test ys || list_any test xs)
    list_any-with_placed test ys [] = grind arith
    list_any-with_placed test ys (x ∷ xs) = grind (arith, list_any-with_placed test (placed cmp key ys x) xs, list_any-placed test ys x)

    pub list_all-with_placed : (test : X → Bool) (ys xs : List X) → list_all test (with_placed cmp key ys xs) ≡ (list_all test ys && list_all test xs)
    list_all-with_placed test ys [] = grind arith
    list_all-with_placed test ys (x ∷ xs) = grind (arith, list_all-with_placed test (placed cmp key ys x) xs, list_all-placed test ys x)

    -- a list with further items has a key where the list or the items have it
    pub has-with_placed : (ys xs : List X) (k : K) → has (eq_by_cmp cmp) (map key (with_placed cmp key ys xs)) k ≡ has (eq_by_cmp cmp) (map key (ys ++ xs)) k
    has-with_placed ys xs k =
        let test = eq_by_cmp cmp k in
        list_any-map test key (with_placed cmp key ys xs) ∙ list_any-with_placed (λ x. test (key x)) ys xs ∙ sym (list_any-append (λ x. test (key x)) ys xs) ∙ sym (list_any-map test key (ys ++ xs))

    rises-placed_one_by_one : (ys seen xs : List X) → rises cmp (map key (with_placed cmp key ys seen)) ≡ true
        → list_all (λ p. not (has (eq_by_cmp cmp) (map key (ys ++ p.0)) (key p.1))) (with_before_from seen xs) ≡ true
        → rises cmp (map key (with_placed cmp key (with_placed cmp key ys seen) xs)) ≡ true
    rises-placed_one_by_one ys seen [] h new = h
    rises-placed_one_by_one ys seen (x ∷ xs) h new =
        let one_more : with_placed cmp key ys (seen ++ x ∷ []) ≡ placed cmp key (with_placed cmp key ys seen) x = fold-append (placed cmp key) ys seen (x ∷ []) in
        let first = has-with_placed ys seen (key x) ∙ not-true _ (and_parts _ _ new).0 in
        let step : rises cmp (map key (with_placed cmp key ys (seen ++ x ∷ []))) ≡ true = rw one_more (rises-placed (with_placed cmp key ys seen) x h first) in
        let rest = rises-placed_one_by_one ys (seen ++ x ∷ []) xs step (and_parts _ _ new).1 in
        rw one_more at rest

    -- further items, each with a key that no item before it has, keep a list in order
    pub rises-with_placed : (ys xs : List X) → rises cmp (map key ys) ≡ true
        → list_all (λ p. not (has (eq_by_cmp cmp) (map key (ys ++ p.0)) (key p.1))) (with_before xs) ≡ true
        → rises cmp (map key (with_placed cmp key ys xs)) ≡ true
    rises-with_placed ys xs h new = rises-placed_one_by_one ys [] xs h new

    -- a key below all others is not found
    not_found_below : (k : K) (xs : List X) → rises cmp (k ∷ map key xs) ≡ true → find (λ y. eq_by_cmp cmp (key y) k) xs ≡ None
    not_found_below k [] h = refl
    not_found_below k (y ∷ ys) h =
        let less = less_from_test _ (and_parts _ _ h).0 in
        rw (turned_less k (key y) less) (not_found_below k ys (rises_skip k (key y) (map key ys) h))

    found_first : (x : X) (xs : List X) → find (λ y. eq_by_cmp cmp (key y) (key x)) (x ∷ xs) ≡ Some x
    found_first x xs = rw (tied_itself o (key x)) refl

    -- the items behind a shared first item have the same look-ups
    look_ups_behind : (x : X) (xs ys : List X) → rises cmp (key x ∷ map key xs) ≡ true → rises cmp (key x ∷ map key ys) ≡ true
        → ((k : K) → look_up cmp key (x ∷ xs) k ≡ look_up cmp key (x ∷ ys) k)
        → (k : K) → look_up cmp key xs k ≡ look_up cmp key ys k
    look_ups_behind x xs ys h g same k = elim (cases_Bool (eq_by_cmp cmp (key x) k)) [
      | inl tied ↦
          let e = equal_from_test _ tied in
          not_found_below k xs (rises_alike _ _ _ e h) ∙ sym (not_found_below k ys (rises_alike _ _ _ e g))
      | inr apart ↦ rw apart at (same k)
    ]

    first_same : (x y : X) (xs ys : List X) → rises cmp (key x ∷ map key xs) ≡ true → rises cmp (key y ∷ map key ys) ≡ true
        → ((k : K) → look_up cmp key (x ∷ xs) k ≡ look_up cmp key (y ∷ ys) k)
        → x ≡ y
    first_same x y xs ys h g same =
        let at_x : Some x ≡ look_up cmp key (y ∷ ys) (key x) = sym (found_first x xs) ∙ same (key x) in
        let at_y : look_up cmp key (x ∷ xs) (key y) ≡ Some y = same (key y) ∙ found_first y ys in
        elim (cmp (key x) (key y)) as (λ r. cmp (key x) (key y) ≡ r → x ≡ y) [
          | Less ↦ λ e. absurd (some_is_none (at_x ∙ not_found_below (key x) (y ∷ ys) (and_from _ _ (ap is_lt e) g)))
          | Equal ↦ λ e. same_from_some x y (rw (turned_equal _ _ e) at at_x)
          | Greater ↦ λ e. absurd (some_is_none (sym at_y ∙ not_found_below (key y) (x ∷ xs) (and_from _ _ (ap is_lt (turned _ _ e)) h)))
        ] refl

    -- lists in order that answer each look-up alike are equal
    pub same_from_look_ups : (xs ys : List X) → rises cmp (map key xs) ≡ true → rises cmp (map key ys) ≡ true
        → ((k : K) → look_up cmp key xs k ≡ look_up cmp key ys k)
        → xs ≡ ys
    same_from_look_ups [] [] h g same = refl
    same_from_look_ups [] (y ∷ ys) h g same = absurd (some_is_none (sym (same (key y) ∙ found_first y ys)))
    same_from_look_ups (x ∷ xs) [] h g same = absurd (some_is_none (sym (found_first x xs) ∙ same (key x)))
    same_from_look_ups (x ∷ xs) (y ∷ ys) h g same =
        let first = first_same x y xs ys h g same in
        let g' : rises cmp (key x ∷ map key ys) ≡ true = rw first g in
        let same' : (k : K) → look_up cmp key (x ∷ xs) k ≡ look_up cmp key (x ∷ ys) k = subst (λ z. (k : K) → look_up cmp key (x ∷ xs) k ≡ look_up cmp key (z ∷ ys) k) (sym first) same in
        let rest = same_from_look_ups xs ys (rises_tail _ _ h) (rises_tail _ _ g) (look_ups_behind x xs ys h g' same') in
        ap (λ z. z ∷ xs) first ∙ ap (λ zs. y ∷ zs) rest

    -- a look-up finds an item exactly where one has the key
    pub is_some-look_up : (xs : List X) (k : K) → is_some (look_up cmp key xs k) ≡ has (eq_by_cmp cmp) (map key xs) k
    is_some-look_up [] k = refl
    is_some-look_up (y ∷ ys) k = rw (symmetric (key y) k) (found_or_behind y _ (eq_by_cmp cmp k (key y)) _ (is_some-look_up ys k))

    module _ (change : X → X) where
      -- a change at a key below all others
      unchanged_below : (k : K) (xs : List X) → rises cmp (k ∷ map key xs) ≡ true → changed_at cmp key change k xs ≡ xs
      unchanged_below k [] h = refl
      unchanged_below k (y ∷ ys) h =
          let less = less_from_test _ (and_parts _ _ h).0 in
          rw (turned_less k (key y) less, unchanged_below k ys (rises_skip k (key y) (map key ys) h)) refl

      -- a change at a key keeps what is true of each item, if it is true of the changed one
      pub list_all-changed_at : (test : X → Bool) (k : K) (x : X) (xs : List X) → rises cmp (map key xs) ≡ true → look_up cmp key xs k ≡ Some x
          → list_all test xs ≡ true → test (change x) ≡ true → list_all test (changed_at cmp key change k xs) ≡ true
      list_all-changed_at test k x [] h found all one = refl
      list_all-changed_at test k x (y ∷ ys) h found all one = elim (cases_Bool (eq_by_cmp cmp (key y) k)) [
        | inl tied ↦
            let found' : Some y ≡ Some x = rw tied at found in
            let same = same_from_some y x found' in
            let rest = unchanged_below k ys (rises_alike _ _ _ (equal_from_test _ tied) h) in
            let first : test (change y) ≡ true = rw same one in
            rw (tied, rest) (and_from _ _ first (and_parts _ _ all).1)
        | inr apart ↦
            let found' : look_up cmp key ys k ≡ Some x = rw apart at found in
            let rest = list_all-changed_at test k x ys (rises_tail _ _ h) found' (and_parts _ _ all).1 one in
            rw apart (and_from _ _ (and_parts _ _ all).0 rest)
      ]

      -- a change at a key is a write at its place
      pub changed_at-set : (xs : List X) (i : ℕ) (k : K) (d : X) → rises cmp (map key xs) ≡ true → i < length xs → cmp (key (get_or xs i d)) k ≡ Equal
          → changed_at cmp key change k xs ≡ set xs i (change (get_or xs i d))
      changed_at-set [] i k d h in_range e = absurd (omega arith)
      changed_at-set (y ∷ ys) zero k d h in_range e = rw (e, unchanged_below k ys (rises_alike (key y) k (map key ys) e h)) refl
      changed_at-set (y ∷ ys) (suc i) k d h in_range e =
          let before = above_first y ys h i d (omega arith) in
          let less : cmp (key y) k ≡ Less = rw (← alike_right o _ _ (key y) e) before in
          rw (less, changed_at-set ys i k d (rises_tail _ _ h) (omega arith) e) refl

    -- a look-up at a key that a place has
    pub look_up-at : (xs : List X) (i : ℕ) (k : K) (d : X) → rises cmp (map key xs) ≡ true → i < length xs → cmp (key (get_or xs i d)) k ≡ Equal
        → look_up cmp key xs k ≡ Some (get_or xs i d)
    look_up-at [] i k d h in_range e = absurd (omega arith)
    look_up-at (y ∷ ys) zero k d h in_range e = rw e refl
    look_up-at (y ∷ ys) (suc i) k d h in_range e =
        let before = above_first y ys h i d (omega arith) in
        let less : cmp (key y) k ≡ Less = rw (← alike_right o _ _ (key y) e) before in
        rw less (look_up-at ys i k d (rises_tail _ _ h) (omega arith) e)

    -- a look-up at a key that would go between
    pub look_up-none : (xs : List X) (i : ℕ) (k : K) → IsPartitionPoint (λ y. cmp (key y) k ≡ Less) (λ y. cmp (key y) k ≡ Greater) xs i → look_up cmp key xs k ≡ None
    look_up-none xs i k at = none_from_test _ (is_some-look_up xs k ∙ has-none xs i k at)
