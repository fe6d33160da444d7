-- A set of items of a list in order, with one more.
use Rattle.std.proofs.Common.{◌≡◌, Bool, true, false, ◌&&◌, ◌||◌, cond, List, [], ◌∷◌, filter, Ordering, Less, Equal, Greater, refl, sym, ap, ◌∙◌, inl, inr, is_lt}
use Rattle.std.specs.Cmp.{IsTotalOrder}
use Rattle.std.specs.List.{list_all}
use Rattle.std.specs.BTreeSet.{insert_key}
use Rattle.std.proofs.lemmas.Bool.{and_parts, cases_Bool}
use Rattle.std.proofs.lemmas.Cmp.{tied_itself}
use Rattle.bf_base.proofs.Order.{less_from_test, turned_less}
use Rattle.bf_image.proofs.items.Lists.{all_kept}

-- each item comes before all behind it
abbrev pub ascends : {K : Type 0} → (K → K → Ordering) → List K → Bool
ascends cmp [] = true
ascends cmp (x ∷ xs) = list_all (λ y. is_lt (cmp x y)) xs && ascends cmp xs

-- items that nothing but the first test picks
either_none : {X : Type 0} (p q : X → Bool) (xs : List X) → filter q xs ≡ [] → filter (λ x. p x || q x) xs ≡ filter p xs
either_none p q [] none = refl
either_none p q (x ∷ xs) none = elim (cases_Bool (q x)) [
  | inl picked ↦ let e : x ∷ filter q xs ≡ [] = rw picked at none in absurd cc
  | inr not ↦
      let none' : filter q xs ≡ [] = rw not at none in
      rw (not, either_none p q xs none') (rest (p x))
]
  where
    rest : (b : Bool) → cond (b || false) (x ∷ filter p xs) (filter p xs) ≡ cond b (x ∷ filter p xs) (filter p xs)
    rest true = refl
    rest false = refl

first_of : {X : Type 0} (x y : X) (xs ys : List X) → x ∷ xs ≡ y ∷ ys → x ≡ y
first_of x y xs ys e = ap (λ zs. first x zs) e
  where
    first : {X : Type 0} → X → List X → X
    first d [] = d
    first d (z ∷ zs) = z

rest_of : {X : Type 0} (x y : X) (xs ys : List X) → x ∷ xs ≡ y ∷ ys → xs ≡ ys
rest_of x y xs ys e = ap rest e
  where
    rest : {X : Type 0} → List X → List X
    rest [] = []
    rest (z ∷ zs) = zs

module _ {K : Type 0} {cmp : K → K → Ordering} (o : IsTotalOrder cmp) where
  -- an item before all others goes first
  before_all : (x : K) (xs : List K) → list_all (λ y. is_lt (cmp x y)) xs ≡ true → insert_key cmp xs x ≡ x ∷ xs
  before_all x [] all = refl
  before_all x (y ∷ ys) all = let less : cmp x y ≡ Less = less_from_test _ (and_parts _ _ all).0 in rw less refl

  -- and comes before one of them that is picked
  behind_first : (q : K → Bool) (x g : K) (xs : List K) → list_all (λ y. is_lt (cmp x y)) xs ≡ true → filter q xs ≡ g ∷ [] → cmp g x ≡ Greater
  behind_first q x g xs all one =
      let among : list_all (λ y. is_lt (cmp x y)) (g ∷ []) ≡ true = ap (list_all (λ y. is_lt (cmp x y))) (sym one) ∙ all_kept _ q xs all in
      turned_less o x g (less_from_test _ (and_parts _ _ among).0)

  module _ (p q : K → Bool) where
    abbrev either : K → Bool
    either x = p x || q x

    first_picked : (x : K) (xs : List K) → list_all (λ y. is_lt (cmp x y)) xs ≡ true → filter q xs ≡ [] → (b : Bool)
        → insert_key cmp (cond b (x ∷ filter p xs) (filter p xs)) x ≡ cond (b || true) (x ∷ filter either xs) (filter either xs)
    first_picked x xs all none true = let tied : cmp x x ≡ Equal = tied_itself o x in rw tied (ap (λ zs. x ∷ zs) (sym (either_none p q xs none)))
    first_picked x xs all none false = before_all x (filter p xs) (all_kept _ p xs all) ∙ ap (λ zs. x ∷ zs) (sym (either_none p q xs none))

    later_picked : (x g : K) (xs : List K) → cmp g x ≡ Greater → insert_key cmp (filter p xs) g ≡ filter either xs → (b : Bool)
        → insert_key cmp (cond b (x ∷ filter p xs) (filter p xs)) g ≡ cond (b || false) (x ∷ filter either xs) (filter either xs)
    later_picked x g xs behind e true = rw behind (ap (λ zs. x ∷ zs) e)
    later_picked x g xs behind e false = e

    -- with the one item that a second test picks
    pub inserted : (g : K) (xs : List K) → ascends cmp xs ≡ true → filter q xs ≡ g ∷ [] → insert_key cmp (filter p xs) g ≡ filter either xs
    inserted g [] up one = absurd cc
    inserted g (x ∷ xs) up one = elim (cases_Bool (q x)) [
      | inl picked ↦
          let e : x ∷ filter q xs ≡ g ∷ [] = rw picked at one in
          ap (insert_key cmp (filter p (x ∷ xs))) (sym (first_of x g _ _ e))
          ∙ (rw picked (first_picked x xs (and_parts _ _ up).0 (rest_of x g _ _ e) (p x)))
      | inr not ↦
          let e : filter q xs ≡ g ∷ [] = rw not at one in
          rw not (later_picked x g xs (behind_first q x g xs (and_parts _ _ up).0 e) (inserted g xs (and_parts _ _ up).1 e) (p x))
    ]

    -- and without one
    pub none_inserted : (xs : List K) → filter q xs ≡ [] → filter p xs ≡ filter either xs
    none_inserted xs none = sym (either_none p q xs none)
