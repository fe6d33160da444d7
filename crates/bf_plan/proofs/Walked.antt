-- Lists that are walked item by item.
use Rattle.std.proofs.Common.{◌≡◌, ℕ, zero, suc, ◌+◌, ◌<◌, Bool, true, ◌&&◌, cond, List, [], ◌∷◌, ◌++◌, map, length, get_or, take, drop, Some, position, refl, sym, ap, ap₂, ◌∙◌, arith}
use Rattle.std.specs.List.{flat_map, list_all, enumerate_from, position_from}
use Rattle.std.proofs.lemmas.Bool.{and_parts}
use Rattle.std.proofs.lemmas.Iterator.Adapters.{position_from-zero}
use Rattle.std.proofs.lemmas.List.{append-nil, drop_more, length-take, take_more, map-append, map_more}
use Rattle.std.proofs.lemmas.List.Concat.{flat_map-append}
use Rattle.bf_base.specs.Lists.{with_before_from}

module _ {X : Type 0} where
  -- a test of each item behind those before it
  module _ (q : List X × X → Bool) (xs : List X) where
    abbrev pub left_to_pass : ℕ → Bool
    left_to_pass i = list_all q (with_before_from (take i xs) (drop i xs))

    left_more : (i : ℕ) (x : X) → i < length xs → x ≡ get_or xs i x → left_to_pass i ≡ (q (take i xs, x) && left_to_pass (i + 1))
    left_more i x in_range is = rw (drop_more xs i x in_range, take_more xs i x in_range, ← is)

    -- one item more that passes
    pub one_passed : (i : ℕ) (x : X) → i < length xs → x ≡ get_or xs i x → q (take i xs, x) ≡ true → (all : Bool) → all ≡ left_to_pass i → all ≡ left_to_pass (i + 1)
    one_passed i x in_range is here all so_far = so_far ∙ left_more i x in_range is ∙ ap (λ b. b && left_to_pass (i + 1)) here

module _ {X Y : Type 0} where
  pub flat_map_more : (f : X → List Y) (xs : List X) (i : ℕ) (x : X) → i < length xs → x ≡ get_or xs i x → flat_map f (take (i + 1) xs) ≡ flat_map f (take i xs) ++ f x
  flat_map_more f xs i x in_range is =
      let one : take (i + 1) xs ≡ take i xs ++ (x ∷ []) = rw (take_more xs i x in_range, ← is) refl in
      ap (flat_map f) one ∙ flat_map-append f (take i xs) (x ∷ []) ∙ ap (λ zs. flat_map f (take i xs) ++ zs) (append-nil (f x))

enumerate_from-one_more : {X : Type 0} (n : ℕ) (xs : List X) (x : X) → enumerate_from n (xs ++ x ∷ []) ≡ enumerate_from n xs ++ (n + length xs, x) ∷ []
enumerate_from-one_more {X = X} n [] x =
    let e : n ≡ n + 0 = omega arith in
    ap (λ (m : ℕ). let one : List (ℕ × X) = (m, x) ∷ [] in one) e
enumerate_from-one_more {X = X} n (y ∷ ys) x =
    let k : n + 1 + length ys ≡ n + suc (length ys) = omega arith in
    ap (λ zs. (n, y) ∷ zs) (enumerate_from-one_more (n + 1) ys x ∙ ap (λ (m : ℕ). enumerate_from (n + 1) ys ++ (m, x) ∷ []) k)

module _ {X : Type 0} where
  pub enumerated_more : (xs : List X) (i : ℕ) (x : X) → i < length xs → x ≡ get_or xs i x → enumerate_from 0 (take (i + 1) xs) ≡ enumerate_from 0 (take i xs) ++ (i, x) ∷ []
  enumerated_more xs i x in_range is =
      let one : take (i + 1) xs ≡ take i xs ++ (x ∷ []) = rw (take_more xs i x in_range, ← is) refl in
      let count : 0 + length (take i xs) ≡ i = omega (arith, length-take {A = X}) in
      ap (enumerate_from 0) one ∙ enumerate_from-one_more 0 (take i xs) x ∙ ap (λ (n : ℕ). enumerate_from 0 (take i xs) ++ (n, x) ∷ []) count

  pub mapped_more : {Y : Type 0} (g : ℕ × X → Y) (xs : List X) (i : ℕ) (x : X) → i < length xs → x ≡ get_or xs i x → map g (enumerate_from 0 (take (i + 1) xs)) ≡ map g (enumerate_from 0 (take i xs)) ++ g (i, x) ∷ []
  mapped_more g xs i x in_range is = ap (map g) (enumerated_more xs i x in_range is) ∙ map-append g (enumerate_from 0 (take i xs)) ((i, x) ∷ [])

  pub blocks_more : {Y : Type 0} (g : ℕ × X → List Y) (xs : List X) (i : ℕ) (x : X) → i < length xs → x ≡ get_or xs i x → flat_map g (enumerate_from 0 (take (i + 1) xs)) ≡ flat_map g (enumerate_from 0 (take i xs)) ++ g (i, x)
  blocks_more g xs i x in_range is =
      ap (flat_map g) (enumerated_more xs i x in_range is) ∙ flat_map-append g (enumerate_from 0 (take i xs)) ((i, x) ∷ []) ∙ ap (λ zs. flat_map g (enumerate_from 0 (take i xs)) ++ zs) (append-nil (g (i, x)))

module _ {X : Type 0} where
  -- an item passes what all pass
  pub all_at : (p : X → Bool) (xs : List X) (i : ℕ) (x : X) → list_all p xs ≡ true → i < length xs → x ≡ get_or xs i x → p x ≡ true
  all_at p [] i x all lt is = absurd (omega arith)
  all_at p (y ∷ ys) zero x all lt is = ap p is ∙ (and_parts _ _ all).0
  all_at p (y ∷ ys) (suc i) x all lt is = all_at p ys i x (and_parts _ _ all).1 (omega arith) is

module _ {X Y : Type 0} where
  position_from-map : (p : Y → Bool) (f : X → Y) (k : ℕ) (xs : List X) → position_from p k (map f xs) ≡ position_from (λ x. p (f x)) k xs
  position_from-map p f k [] = refl
  position_from-map p f k (x ∷ xs) = ap (cond (p (f x)) (Some k)) (position_from-map p f (k + 1) xs)

  pub position-map : (p : Y → Bool) (f : X → Y) (xs : List X) → position p (map f xs) ≡ position (λ x. p (f x)) xs
  position-map p f xs = position_from-zero p (map f xs) ∙ position_from-map p f 0 xs ∙ sym (position_from-zero (λ x. p (f x)) xs)

  -- one item more that nothing is objected to, and what is made of it
  pub passes : (f : X → List Y) (xs : List X) (i : ℕ) (x : X) → i < length xs → x ≡ get_or xs i x → f x ≡ [] → (all : List Y) → all ≡ flat_map f (drop i xs) → all ≡ flat_map f (drop (i + 1) xs)
  passes f xs i x in_range is none all so_far =
      let more : flat_map f (drop i xs) ≡ f x ++ flat_map f (drop (i + 1) xs) = rw (drop_more xs i x in_range, ← is) refl in
      so_far ∙ more ∙ ap (λ (ys : List Y). ys ++ flat_map f (drop (i + 1) xs)) none

  pub made_of_more : (f : X → Y) (xs : List X) (i : ℕ) (x : X) → i < length xs → x ≡ get_or xs i x → (so_far more : List Y) (y : Y)
      → so_far ≡ map f (take i xs) → more ≡ so_far ++ y ∷ [] → y ≡ f x → more ≡ map f (take (i + 1) xs)
  made_of_more f xs i x in_range is so_far more y e made same =
      made ∙ ap₂ (λ (ys : List Y) (z : Y). ys ++ z ∷ []) e (same ∙ ap f is) ∙ sym (map_more f xs i x in_range)
