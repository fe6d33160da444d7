-- The first item that passes a test, and where it stands.
use Rattle.std.proofs.Common.{◌≡◌, ℕ, suc, ◌+◌, ◌≤◌, Bool, true, false, not, cond, nat_lt, List, [], ◌∷◌, map, find, length, get_or, Some, None, refl, sym, ap, ap₂, ◌∙◌, inl, inr, arith}
use Rattle.std.specs.Prelude.{position, slice_get}
use Rattle.std.specs.List.{Contains, position_or_len}
use Rattle.std.specs.Option.{option_and_then}
use Rattle.std.proofs.lemmas.Bool.{cases_Bool}
use Rattle.std.proofs.lemmas.Bool.Decides.{nat_tests}
use Rattle.std.proofs.lemmas.List.{length-map}
use Rattle.std.proofs.lemmas.List.Folds.{find_at}
use Rattle.std.proofs.lemmas.List.Quantifiers.{position-Some}
use Rattle.std.proofs.lemmas.List.Recursion.{is_position_or_len}
use Rattle.std.proofs.lemmas.Option.{slice_get-get_or, slice_get_past}

module _ {X : Type 0} (test : X → Bool) where
  found_by_place : (xs : List X) → find test xs ≡ option_and_then (slice_get xs) (position test xs)
  found_by_place xs = find_at test xs ∙ elim (cases_Bool (nat_lt (position_or_len test xs) (length xs))) [
    | inl within ↦ ap (λ b. option_and_then (slice_get xs) (cond b (Some (position_or_len test xs)) None)) (sym within)
    | inr past ↦
        let beyond : length xs ≤ position_or_len test xs = grind (arith, nat_tests) in
        slice_get_past xs (position_or_len test xs) beyond
        ∙ ap (λ b. option_and_then (slice_get xs) (cond b (Some (position_or_len test xs)) None)) (sym past)
  ]

  pub found_there : (xs : List X) (place : ℕ) (d : X) → position test xs ≡ Some place → find test xs ≡ Some (get_or xs place d)
  found_there xs place d at = found_by_place xs ∙ ap (option_and_then (slice_get xs)) at ∙ slice_get-get_or xs place d (position-Some test xs place d at).0

  pub found_nowhere : (xs : List X) → position test xs ≡ None → find test xs ≡ None
  found_nowhere xs none = found_by_place xs ∙ ap (option_and_then (slice_get xs)) none

  -- what is found passes, and is among the items
  pub found_passes : (xs : List X) (x : X) → find test xs ≡ Some x → test x ≡ true
  found_passes [] x e = absurd cc
  found_passes (y ∷ ys) x e = elim (cases_Bool (test y)) [
    | inl passes ↦
        let found : Some y ≡ Some x = rw passes at e in
        let same : y ≡ x = cc in
        ap test (sym same) ∙ passes
    | inr fails ↦ let found : find test ys ≡ Some x = rw fails at e in found_passes ys x found
  ]

  pub found_among : (xs : List X) (x : X) → find test xs ≡ Some x → Contains xs x
  found_among [] x e = absurd cc
  found_among (y ∷ ys) x e = elim (cases_Bool (test y)) [
    | inl passes ↦ let found : Some y ≡ Some x = rw passes at e in let same : y ≡ x = cc in (0, omega arith, same)
    | inr fails ↦
        let found : find test ys ≡ Some x = rw fails at e in
        let (k, less, at) = found_among ys x found in
        (suc k, omega arith, at)
  ]

module _ {X Y : Type 0} (test : Y → Bool) (f : X → Y) where
  one_more : (b : Bool) (n : ℕ) → cond (not b) (1 + n) 0 ≡ cond b 0 (1 + n)
  one_more true n = refl
  one_more false n = refl

  -- a place among what is made of items is a place among these
  pub position-map : (xs : List X) → position test (map f xs) ≡ position (λ x. test (f x)) xs
  position-map xs =
      let same = is_position_or_len (λ xs. position_or_len test (map f xs)) (λ x. test (f x)) refl (λ x xs. one_more (test (f x)) (position_or_len test (map f xs))) xs in
      ap₂ (λ m n. cond (nat_lt m n) (Some m) None) same (length-map xs f)
