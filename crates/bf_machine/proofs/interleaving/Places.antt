-- Places of sessions in a machine's lists.
use Rattle.std.proofs.Common.{◌≡◌, ◌≢◌, ℕ, zero, suc, ◌-◌, ◌<◌, ◌≤◌, List, [], ◌∷◌, length, Option, Some, None, refl, ap, arith}
use Rattle.std.specs.Prelude.{Contains}
use Rattle.std.specs.List.{slice_index_or, slice_set}
use Rattle.std.proofs.lemmas.List.{get_or-set_other, get_or-set_same}

-- one item a place, counted from 1
module _ {X : Type 0} (none d : X) where
  abbrev at_place : List X → ℕ → X
  at_place xs s = slice_index_or (none ∷ xs) s d

  pub set_same : (xs : List X) (s : ℕ) (x : X) → 1 ≤ s → s ≤ length xs → at_place (slice_set xs (s - 1) x) s ≡ x
  set_same xs zero x low high = absurd (omega arith)
  set_same xs (suc s) x low high =
      let here : suc s - 1 ≡ s = omega arith in
      rw here (get_or-set_same xs s x d (omega arith))

  pub set_other : (xs : List X) (s t : ℕ) (x : X) → 1 ≤ s → t ≢ s → at_place (slice_set xs (s - 1) x) t ≡ at_place xs t
  set_other xs zero t x low apart = absurd (omega arith)
  set_other xs (suc s) zero x low apart = refl
  set_other xs (suc s) (suc t) x low apart =
      let here : suc s - 1 ≡ s = omega arith in
      let other : t ≢ s = λ same. apart (ap suc same) in
      rw here (get_or-set_other xs s t x d other)

  pub from_one : (xs : List X) (s : ℕ) → 1 ≤ s → slice_index_or xs (s - 1) d ≡ at_place xs s
  from_one xs zero low = absurd (omega arith)
  from_one xs (suc s) low =
      let here : suc s - 1 ≡ s = omega arith in
      rw here refl

-- what is at a place stands within the list
pub some_within : {X : Type 0} (xs : List (Option X)) (k : ℕ) (x : X) → slice_index_or xs k None ≡ Some x → k < length xs
some_within [] k x is = absurd cc
some_within (y ∷ xs) zero x is = omega arith
some_within (y ∷ xs) (suc k) x is = omega (arith, some_within xs k x is)

-- and is there
pub there_in : (xs : List ℕ) (i : ℕ) → i < length xs → Contains xs (slice_index_or xs i 0)
there_in xs i below = (i, below, same xs i below)
  where
    same : (xs : List ℕ) (i : ℕ) → i < length xs → slice_index_or xs i (slice_index_or xs i 0) ≡ slice_index_or xs i 0
    same [] i below = absurd (omega (arith, below))
    same (x ∷ xs) zero below = refl
    same (x ∷ xs) (suc i) below = same xs i (omega (arith, below))
