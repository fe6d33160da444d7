-- Lists with another item at an index, and with one more at the end.
use Rattle.std.proofs.Common.{◌≡◌, ◌≢◌, ℕ, zero, suc, ◌==◌, ◌<◌, ◌⊎◌, inl, inr, true, false, List, [], ◌∷◌, ◌++◌, length, take, refl, sym, ap, ◌∙◌, ◌+◌, ◌-◌, arith, Some, None}
use Rattle.std.specs.List.{slice_get, slice_set, AllByRecursion}
use Rattle.std.proofs.lemmas.Bool.Decides.{nat_tests}
use Rattle.std.proofs.lemmas.Option.{none-some, same_Some}

pub same_number : (m n : ℕ) → m ≡ n → (m == n) ≡ true
same_number m n e = grind (arith, nat_tests)

pub other_number : (m n : ℕ) → m ≢ n → (m == n) ≡ false
other_number m n ne = grind (arith, nat_tests)

module _ {X : Type 0} where
  pub get-set_same : (xs : List X) (i : ℕ) (x y : X) → slice_get xs i ≡ Some x → slice_get (slice_set xs i y) i ≡ Some y
  get-set_same [] i x y e = absurd (none-some x e)
  get-set_same (z ∷ xs) zero x y e = refl
  get-set_same (z ∷ xs) (suc i) x y e = get-set_same xs i x y e

  pub get-set_other : (xs : List X) (i j : ℕ) (y : X) → j ≢ i → slice_get (slice_set xs i y) j ≡ slice_get xs j
  get-set_other [] i j y ne = refl
  get-set_other (z ∷ xs) zero zero y ne = absurd (ne refl)
  get-set_other (z ∷ xs) zero (suc j) y ne = refl
  get-set_other (z ∷ xs) (suc i) zero y ne = refl
  get-set_other (z ∷ xs) (suc i) (suc j) y ne = get-set_other xs i j y (λ e. ne (ap suc e))

  pub get-length : (xs : List X) (y : X) → slice_get (xs ++ y ∷ []) (length xs) ≡ Some y
  get-length [] y = refl
  get-length (x ∷ xs) y = get-length xs y

  pub get-snoc : (xs : List X) (y : X) (i : ℕ) (z : X) → slice_get (xs ++ y ∷ []) i ≡ Some z → (slice_get xs i ≡ Some z) ⊎ ((i ≡ length xs) × (z ≡ y))
  get-snoc [] y zero z e = inr (refl, sym (same_Some y z e))
  get-snoc [] y (suc i) z e = absurd (none-some z e)
  get-snoc (x ∷ xs) y zero z e = inl e
  get-snoc (x ∷ xs) y (suc i) z e = elim (get-snoc xs y i z e) [ inl a ↦ inl a | inr b ↦ inr (ap suc b.0, b.1) ]

  pub get-front : (xs ys : List X) (i : ℕ) (z : X) → slice_get xs i ≡ Some z → slice_get (xs ++ ys) i ≡ Some z
  get-front [] ys i z e = absurd (none-some z e)
  get-front (x ∷ xs) ys zero z e = e
  get-front (x ∷ xs) ys (suc i) z e = get-front xs ys i z e

  -- an item at an index that has one
  pub get_there : (xs : List X) (i : ℕ) → i < length xs → (x : X) × (slice_get xs i ≡ Some x)
  get_there [] i lt = absurd (omega arith)
  get_there (x ∷ xs) zero lt = (x, refl)
  get_there (x ∷ xs) (suc i) lt = get_there xs i (omega arith)

  module _ (P : X → Type 0) where
    pub all_front : (xs : List X) (y : X) → AllByRecursion P (xs ++ y ∷ []) → AllByRecursion P xs
    all_front [] y all = tt
    all_front (x ∷ xs) y all = (all.0, all_front xs y all.1)

    pub all_last : (xs : List X) (y : X) → AllByRecursion P (xs ++ y ∷ []) → P y
    all_last [] y all = all.0
    all_last (x ∷ xs) y all = all_last xs y all.1

    pub all_snoc : (xs : List X) (y : X) → AllByRecursion P xs → P y → AllByRecursion P (xs ++ y ∷ [])
    all_snoc [] y all p = (p, tt)
    all_snoc (x ∷ xs) y all p = (all.0, all_snoc xs y all.1 p)

  -- ---- the last item taken off
  off_last : (n : ℕ) (xs : List X) (e : X) → length xs ≡ suc n → slice_get xs n ≡ Some e → take n xs ++ e ∷ [] ≡ xs
  off_last n [] e long at = absurd (omega arith)
  off_last zero (x ∷ []) e long at = ap (λ y. y ∷ []) (sym (same_Some x e at))
  off_last zero (x ∷ y ∷ ys) e long at = absurd (omega arith)
  off_last (suc n) (x ∷ xs) e long at = ap (λ ys. x ∷ ys) (off_last n xs e (omega arith) at)

  pub popped : (xs ys : List X) (e : X) → Some e ≡ slice_get xs (length xs - 1) → ys ≡ take (length xs - 1) xs → ys ++ e ∷ [] ≡ xs
  popped [] ys e last rest = absurd (none-some e (sym last))
  popped (x ∷ xs) ys e last rest =
      ap (λ zs. zs ++ e ∷ []) rest ∙ off_last (length (x ∷ xs) - 1) (x ∷ xs) e (omega arith) (sym last)

  pub none_popped : (xs : List X) → None ≡ slice_get xs (length xs - 1) → xs ≡ []
  none_popped [] last = refl
  none_popped (x ∷ xs) last =
      let there = get_there (x ∷ xs) (length (x ∷ xs) - 1) (omega arith) in
      absurd (none-some there.0 (last ∙ there.1))

  pub none_left : (xs ys : List X) → None ≡ slice_get xs (length xs - 1) → ys ≡ take (length xs - 1) xs → ys ≡ []
  none_left [] ys last rest = rest
  none_left (x ∷ xs) ys last rest =
      let there = get_there (x ∷ xs) (length (x ∷ xs) - 1) (omega arith) in
      absurd (none-some there.0 (last ∙ there.1))

  -- a front with the next item
  take_suc : (xs : List X) (i : ℕ) (x : X) → slice_get xs i ≡ Some x → take (suc i) xs ≡ take i xs ++ x ∷ []
  take_suc [] i x at = absurd (none-some x at)
  take_suc (y ∷ xs) zero x at = ap (λ z. z ∷ []) (same_Some y x at)
  take_suc (y ∷ xs) (suc i) x at = ap (λ zs. y ∷ zs) (take_suc xs i x at)

  pub take_one : (xs : List X) (i : ℕ) (x : X) → slice_get xs i ≡ Some x → take (i + 1) xs ≡ take i xs ++ x ∷ []
  take_one xs i x at = (let next : i + 1 ≡ suc i = omega arith in ap (λ n. take n xs) next ∙ take_suc xs i x at)

  -- an item of a front
  pub taken : (n k : ℕ) (xs : List X) (x : X) → slice_get (take n xs) k ≡ Some x → (k < n) × (slice_get xs k ≡ Some x)
  taken zero k xs x at = absurd (none-some x at)
  taken (suc n) k [] x at = absurd (none-some x at)
  taken (suc n) zero (y ∷ xs) x at = (omega arith, at)
  taken (suc n) (suc k) (y ∷ xs) x at = (let rest = taken n k xs x at in let less = rest.0 in (omega arith, rest.1))
