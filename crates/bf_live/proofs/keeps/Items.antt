-- What is true of items of lists, and of what is found among them.
use Rattle.std.proofs.Common.{◌≡◌, Bool, true, cond, List, [], ◌∷◌, map, find, Some, refl, sym, ap, ◌∙◌, inl, inr}
use Rattle.std.specs.List.{AllByRecursion, list_any, list_all}
use Rattle.std.proofs.lemmas.Bool.{and_parts, and_from, or_left, or_right, cases_Bool}
use Rattle.std.proofs.lemmas.Option.{same_Some}
use Rattle.bf_base.proofs.Order.{list_any-map}

module _ {X : Type 0} where
  pub list_all_if : (p q : X → Bool) → ((x : X) → p x ≡ true → q x ≡ true) → (xs : List X) → list_all p xs ≡ true
      → list_all q xs ≡ true
  list_all_if p q one [] all = refl
  list_all_if p q one (x ∷ xs) all = and_from _ _ (one x (and_parts _ _ all).0) (list_all_if p q one xs (and_parts _ _ all).1)

  pub each_passes : (p : X → Bool) (xs : List X) → list_all p xs ≡ true → AllByRecursion (λ x. p x ≡ true) xs
  each_passes p [] all = tt
  each_passes p (x ∷ xs) all = ((and_parts _ _ all).0, each_passes p xs (and_parts _ _ all).1)

  -- some item passes where one that is found does
  pub any_found : (test p : X → Bool) (xs : List X) (x : X) → find test xs ≡ Some x → p x ≡ true → list_any p xs ≡ true
  any_found test p [] x is passes = absurd cc
  any_found test p (y ∷ ys) x is passes = elim (cases_Bool (test y)) [
    | inl here ↦
        let same : y ≡ x = same_Some y x (sym (ap (λ b. cond b (Some y) (find test ys)) here) ∙ is) in
        or_left (p y) (list_any p ys) (ap p same ∙ passes)
    | inr behind ↦ or_right (p y) (list_any p ys) (any_found test p ys x (sym (ap (λ b. cond b (Some y) (find test ys)) behind) ∙ is) passes)
  ]

  -- what is true of each item is true of one that is found
  pub all_found : (test p : X → Bool) (xs : List X) (x : X) → find test xs ≡ Some x → list_all p xs ≡ true → p x ≡ true
  all_found test p [] x is all = absurd cc
  all_found test p (y ∷ ys) x is all = elim (cases_Bool (test y)) [
    | inl here ↦
        let same : y ≡ x = same_Some y x (sym (ap (λ b. cond b (Some y) (find test ys)) here) ∙ is) in
        ap p (sym same) ∙ (and_parts _ _ all).0
    | inr behind ↦ all_found test p ys x (sym (ap (λ b. cond b (Some y) (find test ys)) behind) ∙ is) (and_parts _ _ all).1
  ]

  -- a test of a part sees no other part
  pub list_any_alike : {Y : Type 0} (part : X → Y) (test : Y → Bool) (xs ys : List X) → map part xs ≡ map part ys
      → list_any (λ x. test (part x)) xs ≡ list_any (λ y. test (part y)) ys
  list_any_alike part test xs ys same = sym (list_any-map test part xs) ∙ ap (list_any test) same ∙ list_any-map test part ys
