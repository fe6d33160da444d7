-- Lists with the same items in whatever order.
use Rattle.std.proofs.Common.{◌≡◌, Bool, true, false, not, cond, ◌&&◌, ◌||◌, List, [], ◌∷◌, ◌++◌, map, refl, sym, ap, subst, ◌∙◌, arith, filter, flat_map, append_assoc}
use Rattle.std.specs.List.{list_any, list_all}
use Rattle.std.proofs.lemmas.List.{append-nil}

pub data SameItems {X : Type 0} : List X → List X → Type 0 where
  no_items : SameItems [] []
  same_first : {x : X} {xs ys : List X} → SameItems xs ys → SameItems (x ∷ xs) (x ∷ ys)
  exchanged : {x y : X} {xs : List X} → SameItems (x ∷ y ∷ xs) (y ∷ x ∷ xs)
  through : {xs ys zs : List X} → SameItems xs ys → SameItems ys zs → SameItems xs zs

module _ {X : Type 0} where
  pub same_items : (xs : List X) → SameItems xs xs
  same_items [] = no_items
  same_items (x ∷ xs) = same_first (same_items xs)

  pub same_items_if : (xs ys : List X) → xs ≡ ys → SameItems xs ys
  same_items_if xs ys e = subst (λ zs. SameItems xs zs) e (same_items xs)

  pub turned : {xs ys : List X} → SameItems xs ys → SameItems ys xs
  turned no_items = no_items
  turned (same_first r) = same_first (turned r)
  turned exchanged = exchanged
  turned (through r s) = through (turned s) (turned r)

  pub behind : {xs ys : List X} → (zs : List X) → SameItems xs ys → SameItems (zs ++ xs) (zs ++ ys)
  behind [] r = r
  behind (z ∷ zs) r = same_first (behind zs r)

  pub before : {xs ys : List X} → (zs : List X) → SameItems xs ys → SameItems (xs ++ zs) (ys ++ zs)
  before zs no_items = same_items zs
  before zs (same_first r) = same_first (before zs r)
  before zs exchanged = exchanged
  before zs (through r s) = through (before zs r) (before zs s)

  -- an item further behind
  pub between : (x : X) (xs ys : List X) → SameItems (x ∷ (xs ++ ys)) (xs ++ x ∷ ys)
  between x [] ys = same_items (x ∷ ys)
  between x (z ∷ xs) ys = through exchanged (same_first (between x xs ys))

  pub other_way : (xs ys : List X) → SameItems (xs ++ ys) (ys ++ xs)
  other_way [] ys = same_items_if ys (ys ++ []) (sym (append-nil ys))
  other_way (x ∷ xs) ys = through (same_first (other_way xs ys)) (between x ys xs)

  pub list_any-same_items : (test : X → Bool) {xs ys : List X} → SameItems xs ys → list_any test xs ≡ list_any test ys
  list_any-same_items test no_items = refl
  list_any-same_items test (same_first {x = x} r) = ap (λ b. test x || b) (list_any-same_items test r)
  list_any-same_items test (exchanged {x = x} {y = y} {xs = xs}) = grind arith
  list_any-same_items test (through r s) = list_any-same_items test r ∙ list_any-same_items test s

  pub list_all-same_items : (test : X → Bool) {xs ys : List X} → SameItems xs ys → list_all test xs ≡ list_all test ys
  list_all-same_items test no_items = refl
  list_all-same_items test (same_first {x = x} r) = ap (λ b. test x && b) (list_all-same_items test r)
  list_all-same_items test (exchanged {x = x} {y = y} {xs = xs}) = grind arith
  list_all-same_items test (through r s) = list_all-same_items test r ∙ list_all-same_items test s

module _ {X Y : Type 0} where
  pub mapped : (f : X → Y) {xs ys : List X} → SameItems xs ys → SameItems (map f xs) (map f ys)
  mapped f no_items = no_items
  mapped f (same_first r) = same_first (mapped f r)
  mapped f exchanged = exchanged
  mapped f (through r s) = through (mapped f r) (mapped f s)

  -- what comes of the items that pass a test, and of those that don't
  pub parted : (f : X → List Y) (p : X → Bool) (xs : List X) → SameItems (flat_map f xs) (flat_map f (filter p xs) ++ flat_map f (filter (λ x. not (p x)) xs))
  parted f p [] = no_items
  parted f p (x ∷ xs) =
      let these = flat_map f (filter p xs) in
      let those = flat_map f (filter (λ x. not (p x)) xs) in
      let rest = behind (f x) (parted f p xs) in
      elim (p x) as (λ b. SameItems (f x ++ flat_map f xs) (flat_map f (cond b (x ∷ filter p xs) (filter p xs)) ++ flat_map f (cond (not b) (x ∷ filter (λ x. not (p x)) xs) (filter (λ x. not (p x)) xs)))) [
        | true ↦ through rest (same_items_if _ _ (sym (append_assoc (f x) these those)))
        | false ↦
            let moved : SameItems ((f x ++ these) ++ those) ((these ++ f x) ++ those) = before those (other_way (f x) these) in
            through rest (through (same_items_if _ _ (sym (append_assoc (f x) these those))) (through moved (same_items_if _ _ (append_assoc these (f x) those))))
      ]
