-- The entries whose keys are before a range come first, and those behind it last.
use Rattle.std.proofs.Common.{◌≡◌, ℕ, zero, suc, ◌+◌, ◌≤◌, Bool, true, not, List, [], ◌∷◌, drop, map, slice_get, take, Less, Some, refl, sym, ap, ◌∙◌, inl, inr, arith}
use Rattle.std.specs.List.{list_all}
use Rattle.std.proofs.lemmas.Bool.{and_from, and_parts, cases_Bool, false≢true}
use Rattle.bf_base.specs.declared.value.Value.{Value}
use Rattle.bf_base.specs.Maps.{is_map}
use Rattle.bf_base.specs.Values.{key_cmp, key_cmp_total}
use Rattle.bf_base.proofs.Order.{less_from_test, rises_tail}
use Rattle.bf_heap.proofs.Ranges.{Falls}
use Rattle.bf_transpose.specs.KeysBehind.{passes_at}

-- a key with what stands under it
abbrev Keyed : Type 0 → Type 0
Keyed X = List Value × X

abbrev key_of : {X : Type 0} → Keyed X → List Value
key_of entry = entry.0

-- what is passed at a place is passed at all before it
module _ {X : Type 0} (test : List Value → Bool) (falls : Falls test) where
  pub passed_to : (xs : List (Keyed X)) (k : ℕ) → is_map key_cmp key_of xs ≡ true → passes_at test (slice_get xs k) ≡ true → list_all (λ entry. test entry.0) (take (k + 1) xs) ≡ true
  passed_to [] zero up there = absurd (false≢true there)
  passed_to [] (suc k) up there = absurd (false≢true there)
  passed_to (x ∷ xs) zero up there = and_from _ _ there refl
  passed_to (x ∷ []) (suc k) up there = absurd (false≢true there)
  passed_to (x ∷ y ∷ ys) (suc k) up there =
      let next : suc k + 1 ≡ suc (k + 1) = omega arith in
      let parts = and_parts _ _ up in
      let rest : list_all (λ (entry : Keyed X). test entry.0) (take (k + 1) (y ∷ ys)) ≡ true = passed_to (y ∷ ys) k parts.1 there in
      rw next (and_from _ _ (falls x.0 y.0 (less_from_test _ parts.0) (first k rest)) rest)
    where
      first : (k : ℕ) → list_all (λ (entry : Keyed X). test entry.0) (take (k + 1) (y ∷ ys)) ≡ true → test y.0 ≡ true
      first k all = let next : k + 1 ≡ suc k = omega arith in (and_parts (test y.0) _ (ap (λ n. list_all (λ (entry : Keyed X). test entry.0) (take n (y ∷ ys))) (sym next) ∙ all)).0

-- and what is failed at a place is failed at all behind it
module _ (test : List Value → Bool) (falls : Falls (λ key. not (test key))) where
  carried : (a b : List Value) → key_cmp a b ≡ Less → test a ≡ true → test b ≡ true
  carried a b less passes = elim (cases_Bool (test b)) [
    | inl is ↦ is
    | inr fails ↦ absurd (false≢true (sym (ap not passes) ∙ falls a b less (ap not fails)))
  ]

  module _ {X : Type 0} where
    all_behind : (x : Keyed X) (xs : List (Keyed X)) → is_map key_cmp key_of (x ∷ xs) ≡ true → test x.0 ≡ true → list_all (λ entry. test entry.0) (x ∷ xs) ≡ true
    all_behind x [] up passes = and_from _ _ passes refl
    all_behind x (y ∷ ys) up passes =
        let parts = and_parts _ _ up in
        and_from _ _ passes (all_behind y ys parts.1 (carried x.0 y.0 (less_from_test _ parts.0) passes))

    pub passed_from : (xs : List (Keyed X)) (k : ℕ) → is_map key_cmp key_of xs ≡ true → passes_at test (slice_get xs k) ≡ true → list_all (λ entry. test entry.0) (drop k xs) ≡ true
    passed_from [] zero up there = absurd (false≢true there)
    passed_from [] (suc k) up there = absurd (false≢true there)
    passed_from (x ∷ xs) zero up there = all_behind x xs up there
    passed_from (x ∷ xs) (suc k) up there = passed_from xs k (rises_tail key_cmp_total x.0 (map key_of xs) up) there

-- an entry that is among the first, or behind them
module _ {X : Type 0} where
  pub passed_below : (test : List Value → Bool) (xs : List (Keyed X)) (n k : ℕ) (e : Keyed X) → list_all (λ entry. test entry.0) (take n xs) ≡ true → k + 1 ≤ n → slice_get xs k ≡ Some e → test e.0 ≡ true
  passed_below test [] n k e all below at = absurd cc
  passed_below test (x ∷ xs) zero k e all below at = absurd (omega arith)
  passed_below test (x ∷ xs) (suc n) zero e all below at = let same : x ≡ e = cc in ap (λ (y : Keyed X). test y.0) (sym same) ∙ (and_parts _ _ all).0
  passed_below test (x ∷ xs) (suc n) (suc k) e all below at = passed_below test xs n k e (and_parts _ _ all).1 (omega arith) at

  pub passed_above : (test : List Value → Bool) (xs : List (Keyed X)) (n k : ℕ) (e : Keyed X) → list_all (λ entry. test entry.0) (drop n xs) ≡ true → n ≤ k → slice_get xs k ≡ Some e → test e.0 ≡ true
  passed_above test [] n k e all above at = absurd cc
  passed_above test (x ∷ xs) zero zero e all above at = let same : x ≡ e = cc in ap (λ (y : Keyed X). test y.0) (sym same) ∙ (and_parts _ _ all).0
  passed_above test (x ∷ xs) zero (suc k) e all above at = passed_above test xs zero k e (and_parts _ _ all).1 (omega arith) at
  passed_above test (x ∷ xs) (suc n) zero e all above at = absurd (omega arith)
  passed_above test (x ∷ xs) (suc n) (suc k) e all above at = passed_above test xs n k e all (omega arith) at
