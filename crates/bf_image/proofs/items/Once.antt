-- Lists in which one item at most passes a test.
use Rattle.std.proofs.Common.{◌≡◌, ℕ, ◌+◌, ◌≤◌, Bool, true, false, ◌||◌, cond, List, [], ◌∷◌, map, flat_map, refl, sym, ap, ap₂, ◌∙◌, arith}
use Rattle.std.specs.List.{list_any, list_all}
use Rattle.std.proofs.lemmas.Bool.{and_parts, and_from, or_parts, or_from, not-true, not_from_false, false≢true}
use Rattle.bf_base.specs.Lists.{has}
use Rattle.bf_base.proofs.Apart.{are_apart}
use Rattle.bf_index.proofs.Bags.{tally, tally-append}

abbrev pub count_if : Bool → ℕ
count_if b = cond b 1 0

pub tally_none : {X : Type 0} (p : X → Bool) (xs : List X) → list_any p xs ≡ false → tally p xs ≡ 0
tally_none p [] none = refl
tally_none p (x ∷ xs) none = ap₂ (λ m n. m + n) (ap (λ b. cond b 1 0) (or_parts _ _ none).0) (tally_none p xs (or_parts _ _ none).1)

pub any_from_tally : {X : Type 0} (p : X → Bool) (xs : List X) → tally p xs ≡ 0 → list_any p xs ≡ false
any_from_tally p [] e = refl
any_from_tally p (x ∷ xs) e = of (p x) refl (any_from_tally p xs)
  where
    of : (b : Bool) → p x ≡ b → (tally p xs ≡ 0 → list_any p xs ≡ false) → (p x || list_any p xs) ≡ false
    of true at rest = absurd (omega (arith, ap count_if at))
    of false at rest = or_from _ _ at (rest (omega (arith, ap count_if at)))

pub tally_of_blocks : {X Y : Type 0} (p : Y → Bool) (q : X → Bool) (ok : X → Bool) (f : X → List Y) → ((x : X) → ok x ≡ true → tally p (f x) ≤ count_if (q x)) → (xs : List X) → list_all ok xs ≡ true → tally p (flat_map f xs) ≤ tally q xs
tally_of_blocks p q ok f one [] all = omega arith
tally_of_blocks p q ok f one (x ∷ xs) all =
    let first : tally p (f x) ≤ count_if (q x) = one x (and_parts (ok x) (list_all ok xs) all).0 in
    let rest : tally p (flat_map f xs) ≤ tally q xs = tally_of_blocks p q ok f one xs (and_parts (ok x) (list_all ok xs) all).1 in
    omega (arith, tally-append p (f x) (flat_map f xs))

pub tally_of_map : {X Y : Type 0} (p : Y → Bool) (f : X → Y) (xs : List X) → tally p (map f xs) ≡ tally (λ x. p (f x)) xs
tally_of_map p f [] = refl
tally_of_map p f (x ∷ xs) = ap (λ n. cond (p (f x)) 1 0 + n) (tally_of_map p f xs)

module _ {K : Type 0} (same : K → K → Bool) where
  -- keys of which each comes once at most
  pub apart_from_tallies : ((k : K) → same k k ≡ true) → (ks : List K) → ((k : K) → tally (same k) ks ≤ 1) → are_apart same ks ≡ true
  apart_from_tallies itself [] once = refl
  apart_from_tallies itself (k ∷ ks) once =
      let here = once k in
      let none : tally (same k) ks ≡ 0 = omega (arith, ap count_if (itself k)) in
      and_from _ _ (not_from_false _ (any_from_tally (same k) ks none)) (apart_from_tallies itself ks (λ j. omega (arith, once j)))

  pub tally_of_apart : ((a b : K) → same a b ≡ true → a ≡ b) → (k : K) (ks : List K) → are_apart same ks ≡ true → tally (same k) ks ≤ 1
  tally_of_apart equal k [] apart = omega arith
  tally_of_apart equal k (j ∷ ks) apart = of (same k j) refl (tally_of_apart equal k ks (and_parts _ _ apart).1)
    where
      of : (b : Bool) → same k j ≡ b → tally (same k) ks ≤ 1 → cond (same k j) 1 0 + tally (same k) ks ≤ 1
      of true at rest =
          let none : tally (same k) ks ≡ 0 = tally_none (same k) ks (ap (has same ks) (equal k j at) ∙ not-true _ (and_parts _ _ apart).0) in
          omega (arith, ap count_if at)
      of false at rest = omega (arith, ap count_if at)

  module _ {X : Type 0} (key : X → K) where
    none_behind : (p ok : X → Bool) → ((x y : X) → ok x ≡ true → ok y ≡ true → p x ≡ true → p y ≡ true → same (key x) (key y) ≡ true)
        → (x : X) → ok x ≡ true → p x ≡ true → (ys : List X) → list_all ok ys ≡ true → has same (map key ys) (key x) ≡ false → list_any p ys ≡ false
    none_behind p ok agree x fine at [] all none = refl
    none_behind p ok agree x fine at (y ∷ ys) all none = or_from _ _ (fails (p y) refl) (none_behind p ok agree x fine at ys (and_parts _ _ all).1 (or_parts _ _ none).1)
      where
        fails : (b : Bool) → p y ≡ b → p y ≡ false
        fails true e = absurd (false≢true (sym (or_parts _ _ none).0 ∙ agree x y fine (and_parts _ _ all).0 at e))
        fails false e = e

    -- of items that are apart one passes, where two that pass have the same key
    pub once_passes : (p ok : X → Bool) → ((x y : X) → ok x ≡ true → ok y ≡ true → p x ≡ true → p y ≡ true → same (key x) (key y) ≡ true) → (xs : List X) → list_all ok xs ≡ true → are_apart same (map key xs) ≡ true → tally p xs ≤ 1
    once_passes p ok agree [] all apart = omega arith
    once_passes p ok agree (x ∷ xs) all apart = of (p x) refl (once_passes p ok agree xs (and_parts _ _ all).1 (and_parts _ _ apart).1)
      where
        of : (b : Bool) → p x ≡ b → tally p xs ≤ 1 → cond (p x) 1 0 + tally p xs ≤ 1
        of true at rest = omega (arith, ap count_if at, tally_none p xs (none_behind p ok agree x (and_parts _ _ all).0 at xs (and_parts _ _ all).1 (not-true _ (and_parts _ _ apart).0)))
        of false at rest = omega (arith, ap count_if at)

any_gives : {X : Type 0} (p ok : X → Bool) (xs : List X) → list_any p xs ≡ true → list_all ok xs ≡ true → (x : X) × (p x ≡ true) × (ok x ≡ true)
any_gives p ok [] some all = absurd (false≢true some)
any_gives {X = X} p ok (x ∷ xs) some all = of (p x) refl (λ more. any_gives p ok xs more (and_parts _ _ all).1)
  where
    of : (b : Bool) → p x ≡ b → (list_any p xs ≡ true → (x : X) × (p x ≡ true) × (ok x ≡ true)) → (x : X) × (p x ≡ true) × (ok x ≡ true)
    of true at rest = (x, at, (and_parts _ _ all).0)
    of false at rest = rest (sym (ap (λ b. b || list_any p xs) at) ∙ some)

module _ {X Y Z K L : Type 0} (sameX : K → K → Bool) (sameY : L → L → Bool) (keyX : X → K) (keyY : Y → L) (okX : X → Bool) (okY : Y → Bool)
    (h : X → Y → List Z) (q : Z → Bool) (p : X → Y → Bool)
    (one : (x : X) (y : Y) → okX x ≡ true → okY y ≡ true → tally q (h x y) ≤ count_if (p x y))
    (firsts : (x x' : X) (y y' : Y) → okX x ≡ true → okX x' ≡ true → okY y ≡ true → okY y' ≡ true → p x y ≡ true → p x' y' ≡ true → sameX (keyX x) (keyX x') ≡ true)
    (seconds : (x : X) (y y' : Y) → okX x ≡ true → okY y ≡ true → okY y' ≡ true → p x y ≡ true → p x y' ≡ true → sameY (keyY y) (keyY y') ≡ true)
  where
    each_first : (ys : List Y) → list_all okY ys ≡ true → are_apart sameY (map keyY ys) ≡ true → (x : X) → okX x ≡ true → tally q (flat_map (h x) ys) ≤ count_if (list_any (p x) ys)
    each_first ys allY apartY x fine = of (list_any (p x) ys) refl
      where
        inner : tally q (flat_map (h x) ys) ≤ tally (p x) ys
        inner = tally_of_blocks q (p x) okY (h x) (λ y okay. one x y fine okay) ys allY

        of : (b : Bool) → list_any (p x) ys ≡ b → tally q (flat_map (h x) ys) ≤ count_if (list_any (p x) ys)
        of true at = omega (arith, inner, ap count_if at, once_passes sameY keyY (p x) okY (λ y y' o o' e e'. seconds x y y' fine o o' e e') ys allY apartY)
        of false at = omega (arith, inner, ap count_if at, tally_none (p x) ys at)

    agreeing : (ys : List Y) → list_all okY ys ≡ true → (x x' : X) → okX x ≡ true → okX x' ≡ true → list_any (p x) ys ≡ true → list_any (p x') ys ≡ true → sameX (keyX x) (keyX x') ≡ true
    agreeing ys allY x x' o o' e e' =
        let (y, at, okay) = any_gives (p x) okY ys e allY in
        let (y', at', okay') = any_gives (p x') okY ys e' allY in
        firsts x x' y y' o o' okay okay' at at'

    -- of pairs of items that are apart one passes
    pub once_in_pairs : (xs : List X) (ys : List Y) → list_all okX xs ≡ true → list_all okY ys ≡ true → are_apart sameX (map keyX xs) ≡ true → are_apart sameY (map keyY ys) ≡ true
        → tally q (flat_map (λ x. flat_map (h x) ys) xs) ≤ 1
    once_in_pairs xs ys allX allY apartX apartY =
        let outer = tally_of_blocks q (λ x. list_any (p x) ys) okX (λ x. flat_map (h x) ys) (each_first ys allY apartY) xs allX in
        let once = once_passes sameX keyX (λ x. list_any (p x) ys) okX (agreeing ys allY) xs allX apartX in
        omega (arith, outer, once)
