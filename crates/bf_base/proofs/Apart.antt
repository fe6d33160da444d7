-- Lists with pairwise different keys, and what filters and maps do to lists in order.
use Rattle.std.proofs.Common.{◌≡◌, Bool, true, false, not, ◌&&◌, cond, if◌then◌else◌, List, [], ◌∷◌, ◌++◌, map, filter, Ordering, Less, Some, refl, sym, ap, ◌∙◌, inl, inr, arith, is_lt, is_eq, append_assoc}
use Rattle.std.specs.Cmp.{IsTotalOrder}
use Rattle.std.specs.FinMap.{IsAntisymmetric}
use Rattle.std.specs.List.{list_any, list_all}
use Rattle.std.specs.Ordering.{eq_by_cmp}
use Rattle.std.proofs.lemmas.Bool.{and_parts, and_from, or_parts, or_from, not-true, not_from_false, cases_Bool}
use Rattle.std.proofs.lemmas.List.{append-nil, map-append}
use Rattle.std.proofs.lemmas.List.Folds.{list_any-append}
use Rattle.bf_base.specs.Lists.{rises, placed, with_placed, in_order, has}
use Rattle.bf_base.proofs.Items.{SameItems, no_items, same_first, exchanged, through, same_items, same_items_if, turned, before, between, mapped, list_any-same_items}
use Rattle.bf_base.proofs.Order.{first_is, less_from_test, equal_from_test, look_up, turned_less, symmetric, rises_skip, rises_cons, rises_tail, rises-placed}

-- what no item passes, none that a test leaves passes
pub list_any-filter : {X : Type 0} (test p : X → Bool) (xs : List X) → list_any test xs ≡ false → list_any test (filter p xs) ≡ false
list_any-filter test p [] none = refl
list_any-filter test p (x ∷ xs) none = elim (p x) as (λ b. list_any test (cond b (x ∷ filter p xs) (filter p xs)) ≡ false) [
  | true ↦ or_from _ _ (or_parts _ _ none).0 (list_any-filter test p xs (or_parts _ _ none).1)
  | false ↦ list_any-filter test p xs (or_parts _ _ none).1
]

-- no item is the same as another
abbrev pub are_apart : {K : Type 0} → (K → K → Bool) → List K → Bool
are_apart same [] = true
are_apart same (k ∷ ks) = not (has same ks k) && are_apart same ks

module _ {K : Type 0} (same : K → K → Bool) where
  pub apart_left : (ks ls : List K) → are_apart same (ks ++ ls) ≡ true → are_apart same ks ≡ true
  apart_left [] ls h = refl
  apart_left (k ∷ ks) ls h =
      let none = or_parts _ _ (sym (list_any-append (same k) ks ls) ∙ not-true _ (and_parts _ _ h).0) in
      and_from _ _ (not_from_false _ none.0) (apart_left ks ls (and_parts _ _ h).1)

  pub apart_right : (ks ls : List K) → are_apart same (ks ++ ls) ≡ true → are_apart same ls ≡ true
  apart_right [] ls h = h
  apart_right (k ∷ ks) ls h = apart_right ks ls (and_parts _ _ h).1

  -- no key of the one is a key of the other
  pub apart_across : (ks ls : List K) → are_apart same (ks ++ ls) ≡ true → list_all (λ k. not (has same ls k)) ks ≡ true
  apart_across [] ls h = refl
  apart_across (k ∷ ks) ls h =
      let none = or_parts _ _ (sym (list_any-append (same k) ks ls) ∙ not-true _ (and_parts _ _ h).0) in
      and_from _ _ (not_from_false _ none.1) (apart_across ks ls (and_parts _ _ h).1)

  pub apart-append : (ks ls : List K) → are_apart same ks ≡ true → are_apart same ls ≡ true → list_all (λ k. not (has same ls k)) ks ≡ true → are_apart same (ks ++ ls) ≡ true
  apart-append [] ls h g across = g
  apart-append (k ∷ ks) ls h g across =
      let none = or_from (has same ks k) (has same ls k) (not-true _ (and_parts _ (are_apart same ks) h).0) (not-true _ (and_parts _ (list_all (λ k'. not (has same ls k')) ks) across).0) in
      let first = not_from_false _ (list_any-append (same k) ks ls ∙ none) in
      let h' = and_parts (not (has same ks k)) (are_apart same ks) h in
      and_from _ _ first (apart-append ks ls h'.1 g (and_parts (not (has same ls k)) _ across).1)

  pub apart-filter : (test : K → Bool) (ks : List K) → are_apart same ks ≡ true → are_apart same (filter test ks) ≡ true
  apart-filter test [] h = refl
  apart-filter test (k ∷ ks) h = elim (test k) as (λ b. are_apart same (cond b (k ∷ filter test ks) (filter test ks)) ≡ true) [
    | true ↦ and_from _ _ (not_from_false _ (list_any-filter (same k) test ks (not-true _ (and_parts _ _ h).0))) (apart-filter test ks (and_parts _ _ h).1)
    | false ↦ apart-filter test ks (and_parts _ _ h).1
  ]

module _ {K : Type 0} {cmp : K → K → Ordering} (o : IsTotalOrder cmp) where
  exchange_first : (a b : K) (ks : List K) → are_apart (eq_by_cmp cmp) (a ∷ b ∷ ks) ≡ are_apart (eq_by_cmp cmp) (b ∷ a ∷ ks)
  exchange_first a b ks = rw (symmetric o b a) (grind arith)

  pub are_apart-same_items : {ks ls : List K} → SameItems ks ls → are_apart (eq_by_cmp cmp) ks ≡ are_apart (eq_by_cmp cmp) ls
  are_apart-same_items no_items = refl
  are_apart-same_items (same_first {x = k} r) = rw (list_any-same_items (eq_by_cmp cmp k) r, are_apart-same_items r) refl
  are_apart-same_items (exchanged {x = a} {y = b} {xs = ks}) = exchange_first a b ks
  are_apart-same_items (through r s) = are_apart-same_items r ∙ are_apart-same_items s

  -- a key below all others is none of them
  has-none_below : (k : K) (ks : List K) → rises cmp (k ∷ ks) ≡ true → has (eq_by_cmp cmp) ks k ≡ false
  has-none_below k [] h = refl
  has-none_below k (b ∷ ks) h =
      let less = less_from_test (cmp k b) (and_parts _ _ h).0 in
      rw less (has-none_below k ks (rises_skip o k b ks h))

  pub apart_from_rises : (ks : List K) → rises cmp ks ≡ true → are_apart (eq_by_cmp cmp) ks ≡ true
  apart_from_rises [] h = refl
  apart_from_rises (k ∷ ks) h = and_from _ _ (not_from_false _ (has-none_below k ks h)) (apart_from_rises ks (rises_tail o k ks h))

  module _ {X : Type 0} (key : X → K) where
    -- items of different keys may come in either order
    placed-exchanged : (ys : List X) (a b : X) → eq_by_cmp cmp (key a) (key b) ≡ false → placed cmp key (placed cmp key ys a) b ≡ placed cmp key (placed cmp key ys b) a
    placed-exchanged [] a b e = grind (arith, o.antisymm (key a) (key b))
    placed-exchanged (y ∷ ys) a b e = grind (arith, o.antisymm (key a) (key b), o.trans (key b) (key a) (key y), o.trans (key a) (key b) (key y), placed-exchanged ys a b e)

    pub with_placed-same_items : {xs zs : List X} → SameItems xs zs → (ys : List X) → are_apart (eq_by_cmp cmp) (map key xs) ≡ true → with_placed cmp key ys xs ≡ with_placed cmp key ys zs
    with_placed-same_items no_items ys h = refl
    with_placed-same_items (same_first {x = x} r) ys h = with_placed-same_items r (placed cmp key ys x) (and_parts _ _ h).1
    with_placed-same_items (exchanged {x = a} {y = b} {xs = xs}) ys h =
        let other = or_parts _ _ (not-true _ (and_parts _ _ h).0) in
        ap (λ zs. with_placed cmp key zs xs) (placed-exchanged ys a b other.0)
    with_placed-same_items (through r s) ys h =
        with_placed-same_items r ys h ∙ with_placed-same_items s ys (sym (are_apart-same_items (mapped key r)) ∙ h)

    -- a look-up sees items of different keys in whatever order
    look_up-exchanged : (a b : X) (xs : List X) (k : K) → eq_by_cmp cmp (key a) (key b) ≡ false → look_up cmp key (a ∷ b ∷ xs) k ≡ look_up cmp key (b ∷ a ∷ xs) k
    look_up-exchanged a b xs k e = elim (cases_Bool (eq_by_cmp cmp (key a) k)) [
      | inl tied ↦
          let other : eq_by_cmp cmp (key b) k ≡ false = symmetric o (key b) k ∙ ap is_eq (sym (o.congr (key a) k (key b) (equal_from_test _ tied))) ∙ e in
          rw (tied, other) refl
      | inr apart ↦ rw apart refl
    ]

    pub look_up-same_items : {xs ys : List X} → SameItems xs ys → are_apart (eq_by_cmp cmp) (map key xs) ≡ true → (k : K) → look_up cmp key xs k ≡ look_up cmp key ys k
    look_up-same_items no_items h k = refl
    look_up-same_items (same_first {x = x} r) h k = ap (λ found. cond (eq_by_cmp cmp (key x) k) (Some x) found) (look_up-same_items r (and_parts _ _ h).1 k)
    look_up-same_items (exchanged {x = a} {y = b} {xs = xs}) h k = look_up-exchanged a b xs k (or_parts _ _ (not-true _ (and_parts _ _ h).0)).0
    look_up-same_items (through r s) h k = look_up-same_items r h k ∙ look_up-same_items s (sym (are_apart-same_items (mapped key r)) ∙ h) k

    pub placed-same_items : (ys : List X) (x : X) → SameItems (x ∷ ys) (placed cmp key ys x)
    placed-same_items [] x = same_items (x ∷ [])
    placed-same_items (y ∷ ys) x = elim (is_lt (cmp (key x) (key y))) as (λ b. SameItems (x ∷ y ∷ ys) (if b then x ∷ y ∷ ys else y ∷ placed cmp key ys x)) [
      | true ↦ same_items (x ∷ y ∷ ys)
      | false ↦ through exchanged (same_first (placed-same_items ys x))
    ]

    pub with_placed-items : (ys xs : List X) → SameItems (ys ++ xs) (with_placed cmp key ys xs)
    with_placed-items ys [] = same_items_if (ys ++ []) ys (append-nil ys)
    with_placed-items ys (x ∷ xs) = through (turned (between x ys xs)) (through (before xs (placed-same_items ys x)) (with_placed-items (placed cmp key ys x) xs))

    -- items that are placed among others first
    pub with_placed-with_placed : (ys xs zs : List X) → are_apart (eq_by_cmp cmp) (map key (xs ++ zs)) ≡ true → with_placed cmp key ys (with_placed cmp key xs zs) ≡ with_placed cmp key ys (xs ++ zs)
    with_placed-with_placed ys xs zs h = sym (with_placed-same_items (with_placed-items xs zs) ys h)

    -- items of pairwise different keys are in order once they are placed
    pub rises-placed_apart : (ys xs : List X) → rises cmp (map key ys) ≡ true → are_apart (eq_by_cmp cmp) (map key (ys ++ xs)) ≡ true → rises cmp (map key (with_placed cmp key ys xs)) ≡ true
    rises-placed_apart ys [] h apart = h
    rises-placed_apart ys (x ∷ xs) h apart =
        let to_front = turned (between x ys xs) in
        let first = sym (are_apart-same_items (mapped key to_front)) ∙ apart in
        let placed_first = sym (are_apart-same_items (mapped key (before xs (placed-same_items ys x)))) ∙ first in
        let front : List K = map key (x ∷ ys) in
        let new = not-true _ (and_parts _ _ (apart_left (eq_by_cmp cmp) (map key (x ∷ ys)) (map key xs) (ap (are_apart (eq_by_cmp cmp)) (sym (map-append key (x ∷ ys) xs)) ∙ first))).0 in
        rises-placed_apart (placed cmp key ys x) xs (rises-placed o key ys x h new) placed_first

    -- a key that comes before another in a list in order is less
    less_before : (y x : X) (ys zs : List X) → rises cmp (map key (y ∷ (ys ++ x ∷ zs))) ≡ true → cmp (key y) (key x) ≡ Less
    less_before y x [] zs h = less_from_test _ (and_parts _ _ h).0
    less_before y x (w ∷ ys) zs h = less_before y x ys zs (rises_skip o (key y) (key w) (map key (ys ++ x ∷ zs)) h)

    placed_last : (ys zs : List X) (x : X) → rises cmp (map key (ys ++ x ∷ zs)) ≡ true → placed cmp key ys x ≡ ys ++ x ∷ []
    placed_last [] zs x h = refl
    placed_last (y ∷ ys) zs x h =
        let later = turned_less o (key y) (key x) (less_before y x ys zs h) in
        rw (later, placed_last ys zs x (rises_tail o (key y) (map key (ys ++ x ∷ zs)) h)) refl

    -- items behind a list with which they are in order
    pub with_placed-behind : (ys xs : List X) → rises cmp (map key (ys ++ xs)) ≡ true → with_placed cmp key ys xs ≡ ys ++ xs
    with_placed-behind ys [] h = sym (append-nil ys)
    with_placed-behind ys (x ∷ xs) h =
        let joined : (ys ++ x ∷ []) ++ xs ≡ ys ++ x ∷ xs = append_assoc ys (x ∷ []) xs in
        let rest = with_placed-behind (ys ++ x ∷ []) xs (ap (λ zs. rises cmp (map key zs)) joined ∙ h) in
        ap (λ zs. with_placed cmp key zs xs) (placed_last ys xs x h) ∙ rest ∙ joined

    pub in_order-rises : (xs : List X) → rises cmp (map key xs) ≡ true → in_order cmp key xs ≡ xs
    in_order-rises xs h = with_placed-behind [] xs h

    -- items that a test leaves out
    filter-placed : (test : X → Bool) (ys : List X) (x : X) → test x ≡ false → filter test (placed cmp key ys x) ≡ filter test ys
    filter-placed test [] x e = rw e refl
    filter-placed test (y ∷ ys) x e = elim (is_lt (cmp (key x) (key y))) as (λ b. filter test (if b then x ∷ y ∷ ys else y ∷ placed cmp key ys x) ≡ filter test (y ∷ ys)) [
      | true ↦ rw e refl
      | false ↦ rw (filter-placed test ys x e) refl
    ]

    pub filter-with_placed : (test : X → Bool) (ys xs : List X) → list_any test xs ≡ false → filter test (with_placed cmp key ys xs) ≡ filter test ys
    filter-with_placed test ys [] e = refl
    filter-with_placed test ys (x ∷ xs) e = filter-with_placed test (placed cmp key ys x) xs (or_parts _ _ e).1 ∙ filter-placed test ys x (or_parts _ _ e).0

    first_filtered : (test : X → Bool) (k : K) (xs : List X) → rises cmp (k ∷ map key xs) ≡ true → first_is (λ b. is_lt (cmp k b)) (map key (filter test xs)) ≡ true
    first_filtered test k [] h = refl
    first_filtered test k (x ∷ xs) h = elim (test x) as (λ b. first_is (λ b. is_lt (cmp k b)) (map key (cond b (x ∷ filter test xs) (filter test xs))) ≡ true) [
      | true ↦ (and_parts _ _ h).0
      | false ↦ first_filtered test k xs (rises_skip o k (key x) (map key xs) h)
    ]

    -- a part of a list in order is in order
    pub rises-filter : (test : X → Bool) (xs : List X) → rises cmp (map key xs) ≡ true → rises cmp (map key (filter test xs)) ≡ true
    rises-filter test [] h = refl
    rises-filter test (x ∷ xs) h = elim (test x) as (λ b. rises cmp (map key (cond b (x ∷ filter test xs) (filter test xs))) ≡ true) [
      | true ↦ rises_cons o (key x) (map key (filter test xs)) (first_filtered test (key x) xs h) (rises-filter test xs (rises_tail o (key x) (map key xs) h))
      | false ↦ rises-filter test xs (rises_tail o (key x) (map key xs) h)
    ]

    -- a key is among the items that a test of keys leaves where it was among all and passes
    pub has-filter : IsAntisymmetric cmp → (test : K → Bool) (xs : List X) (k : K) → has (eq_by_cmp cmp) (map key (filter (λ x. test (key x)) xs)) k ≡ (has (eq_by_cmp cmp) (map key xs) k && test k)
    has-filter anti test [] k = refl
    has-filter anti test (x ∷ xs) k =
        let rest = has-filter anti test xs k in
        let agree : eq_by_cmp cmp k (key x) ≡ true → test k ≡ test (key x) = λ tied. ap test (anti k (key x) (equal_from_test _ tied)) in
        grind (arith, rest, agree)

  -- a map that leaves the keys
  pub map-placed : {X Y : Type 0} (key : X → K) (key' : Y → K) (f : X → Y) → ((x : X) → key' (f x) ≡ key x) → (ys : List X) (x : X) → map f (placed cmp key ys x) ≡ placed cmp key' (map f ys) (f x)
  map-placed key key' f same [] x = refl
  map-placed key key' f same (y ∷ ys) x = rw (same x, same y) (elim (is_lt (cmp (key x) (key y))) as (λ b. map f (if b then x ∷ y ∷ ys else y ∷ placed cmp key ys x) ≡ (if b then f x ∷ f y ∷ map f ys else f y ∷ placed cmp key' (map f ys) (f x))) [
    | true ↦ refl
    | false ↦ ap (λ zs. f y ∷ zs) (map-placed key key' f same ys x)
  ])

  pub map-with_placed : {X Y : Type 0} (key : X → K) (key' : Y → K) (f : X → Y) → ((x : X) → key' (f x) ≡ key x) → (ys xs : List X) → map f (with_placed cmp key ys xs) ≡ with_placed cmp key' (map f ys) (map f xs)
  map-with_placed key key' f same ys [] = refl
  map-with_placed key key' f same ys (x ∷ xs) = map-with_placed key key' f same (placed cmp key ys x) xs ∙ ap (λ zs. with_placed cmp key' zs (map f xs)) (map-placed key key' f same ys x)
