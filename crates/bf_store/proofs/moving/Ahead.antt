-- The first anchor whose granule has not moved: a search from where it stood finds it.
use Rattle.std.proofs.Common.{◌≡◌, ℕ, zero, suc, ◌+◌, ◌≤◌, Bool, true, false, ◌==◌, cond, List, [], ◌∷◌, ◌++◌, map, flat_map, find, drop, Option, Some, None, slice_get, refl, sym, ap, ap₂, ◌∙◌, arith, add-one}
use Rattle.std.specs.List.{enumerate_from}
use Rattle.std.specs.Option.{option_or}
use Rattle.std.proofs.lemmas.Bool.Decides.{nat_tests}
use Rattle.std.proofs.lemmas.Option.{same_Some}
use Rattle.bf_base.specs.declared.granule.Granule.{Granule}
use Rattle.bf_base.specs.declared.granule.Place.{Place}
use Rattle.bf_sql.specs.Database.{Database}
use Rattle.bf_sql.specs.migrations.Granules.{UnitForm, anchors_of, granule}
use Rattle.bf_store.specs.Anchors.{ahead_in, unit_anchors}

abbrev pub Anchored : Type 0
Anchored = Granule × ℕ

abbrev pub numbered : ℕ → ℕ → List Place → List Anchored
numbered n j ps = map (λ (a : ℕ × Place). (granule n a.1, a.0)) (enumerate_from j ps)

-- ---- one unit
drop_numbered : (n j i : ℕ) (ps : List Place) (p : Place) → slice_get ps i ≡ Some p → drop i (numbered n j ps) ≡ (granule n p, j + i) ∷ drop (suc i) (numbered n j ps)
drop_numbered n j i [] p is = absurd cc
drop_numbered n j zero (q ∷ ps) p is =
    let same : q ≡ p = same_Some q p is in
    let k : j ≡ j + 0 = omega arith in
    ap₂ (λ (r : Place) (m : ℕ). (granule n r, m) ∷ numbered n (j + 1) ps) same k
drop_numbered n j (suc i) (q ∷ ps) p is =
    let k : (j + 1) + i ≡ j + suc i = omega arith in
    drop_numbered n (j + 1) i ps p is ∙ ap (λ (m : ℕ). (granule n p, m) ∷ drop (suc i) (numbered n (j + 1) ps)) k

drop_past : (n j i : ℕ) (ps : List Place) → slice_get ps i ≡ None → drop i (numbered n j ps) ≡ []
drop_past n j zero [] none = refl
drop_past n j (suc i) [] none = refl
drop_past n j zero (q ∷ ps) none = absurd cc
drop_past n j (suc i) (q ∷ ps) none = drop_past n (j + 1) i ps none

module _ (test : Anchored → Bool) where
  found_unit : (n j : ℕ) (ps : List Place) (x : Anchored) → find test (numbered n j ps) ≡ Some x → (x.0).unit ≡ n
  found_unit n j [] x is = absurd cc
  found_unit n j (p ∷ ps) x is = elim (test (granule n p, j)) as (λ b. cond b (Some (granule n p, j)) (find test (numbered n (j + 1) ps)) ≡ Some x → (x.0).unit ≡ n) [
    | true ↦ λ e. ap (λ (y : Anchored). (y.0).unit) (sym (same_Some (granule n p, j) x e))
    | false ↦ λ e. found_unit n (j + 1) ps x e
  ] is

  pub found_in_rest : (n j i : ℕ) (ps : List Place) (x : Anchored) → find test (drop i (numbered n j ps)) ≡ Some x → (x.0).unit ≡ n
  found_in_rest n j zero ps x is = found_unit n j ps x is
  found_in_rest n j (suc i) [] x is = absurd cc
  found_in_rest n j (suc i) (p ∷ ps) x is = found_in_rest n (j + 1) i ps x is

  pub find-append : (xs ys : List Anchored) → find test xs ≡ None → find test (xs ++ ys) ≡ find test ys
  find-append [] ys none = refl
  find-append (x ∷ xs) ys none = elim (test x) as (λ b. cond b (Some x) (find test xs) ≡ None → cond b (Some x) (find test (xs ++ ys)) ≡ find test ys) [
    | true ↦ λ e. absurd cc
    | false ↦ λ e. find-append xs ys e
  ] none

  pub find-first : (xs ys : List Anchored) (x : Anchored) → find test xs ≡ Some x → find test (xs ++ ys) ≡ Some x
  find-first [] ys x is = absurd cc
  find-first (y ∷ xs) ys x is = elim (test y) as (λ b. cond b (Some y) (find test xs) ≡ Some x → cond b (Some y) (find test (xs ++ ys)) ≡ Some x) [
    | true ↦ λ e. e
    | false ↦ λ e. find-first xs ys x e
  ] is

-- ---- units in turn
module _ (old : Database) where
  abbrev pub all_in : List (ℕ × UnitForm) → List Anchored
  all_in us = flat_map (unit_anchors old) us

  -- from the first unit on, all are ahead
  pub all_ahead : (k : ℕ) (forms : List UnitForm) → ahead_in old k 0 (enumerate_from k forms) ≡ all_in (enumerate_from k forms)
  all_ahead k [] = refl
  all_ahead k (form ∷ forms) =
      let here : (k == k) ≡ true = grind (arith, nat_tests) in
      rw here refl

  -- of a unit that is there, and then of the next
  unit_ahead_from : (k i n position : ℕ) (forms : List UnitForm) (form : UnitForm) → n ≡ k + i → slice_get forms i ≡ Some form
      → ahead_in old n position (enumerate_from k forms) ≡ drop position (unit_anchors old (n, form)) ++ ahead_in old (n + 1) 0 (enumerate_from k forms)
  unit_ahead_from k i n position [] form at is = absurd cc
  unit_ahead_from k zero n position (f ∷ forms) form at is =
      let same : f ≡ form = same_Some f form is in
      let number : k ≡ n = omega (arith, at) in
      let here : (k == n) ≡ true = grind (arith, nat_tests) in
      let other : (k == n + 1) ≡ false = grind (arith, nat_tests) in
      let next : ahead_in old (n + 1) 0 (enumerate_from (k + 1) forms) ≡ all_in (enumerate_from (k + 1) forms) =
      ap (λ m. ahead_in old (m + 1) 0 (enumerate_from (k + 1) forms)) (sym number) ∙ all_ahead (k + 1) forms in
      rw (here, other, next) (ap₂ (λ m g. drop position (unit_anchors old (m, g)) ++ all_in (enumerate_from (k + 1) forms)) number same)
  unit_ahead_from k (suc i) n position (f ∷ forms) form at is =
      let other : (k == n) ≡ false = grind (arith, nat_tests) in
      let behind : (k == n + 1) ≡ false = grind (arith, nat_tests) in
      rw (other, behind) (unit_ahead_from (k + 1) i n position forms form (omega (arith, at)) is)

  none_ahead_from : (k i n position : ℕ) (forms : List UnitForm) → n ≡ k + i → slice_get forms i ≡ None
      → ahead_in old n position (enumerate_from k forms) ≡ []
  none_ahead_from k i n position [] at none = refl
  none_ahead_from k zero n position (f ∷ forms) at none = absurd cc
  none_ahead_from k (suc i) n position (f ∷ forms) at none =
      let other : (k == n) ≡ false = grind (arith, nat_tests) in
      rw other (none_ahead_from (k + 1) i n position forms (omega (arith, at)) none)

  -- the next anchor of a unit, and none past the last
  pub next_in_unit : (n i : ℕ) (form : UnitForm) (p : Place) → slice_get (anchors_of old form) i ≡ Some p
      → drop i (unit_anchors old (n, form)) ≡ (granule n p, i) ∷ drop (i + 1) (unit_anchors old (n, form))
  next_in_unit n i form p is =
      let k : 0 + i ≡ i = omega arith in
      drop_numbered n 0 i (anchors_of old form) p is ∙ ap₂ (λ (m l : ℕ). (granule n p, m) ∷ drop l (unit_anchors old (n, form))) k (sym (add-one i))

  pub none_in_unit : (n i : ℕ) (form : UnitForm) → slice_get (anchors_of old form) i ≡ None → drop i (unit_anchors old (n, form)) ≡ []
  none_in_unit n i form none = drop_past n 0 i (anchors_of old form) none

  pub unit_ahead : (n position : ℕ) (forms : List UnitForm) (form : UnitForm) → slice_get forms n ≡ Some form
      → ahead_in old n position (enumerate_from 0 forms) ≡ drop position (unit_anchors old (n, form)) ++ ahead_in old (n + 1) 0 (enumerate_from 0 forms)
  unit_ahead n position forms form is = unit_ahead_from 0 n n position forms form (omega arith) is

  pub none_ahead : (n position : ℕ) (forms : List UnitForm) → slice_get forms n ≡ None → ahead_in old n position (enumerate_from 0 forms) ≡ []
  none_ahead n position forms none = none_ahead_from 0 n n position forms (omega arith) none

  -- ---- what was found stays ahead of what is found later
  module _ (test later : Anchored → Bool) (fewer : (a : Anchored) → test a ≡ false → later a ≡ false) where
    goes_on_from : (n j : ℕ) (ps : List Place) (x : Anchored) → find test (numbered n j ps) ≡ Some x
        → (i : ℕ) × ((x.1 ≡ j + i) × (find later (drop i (numbered n j ps)) ≡ find later (numbered n j ps)))
    goes_on_from n j [] x is = absurd cc
    goes_on_from n j (p ∷ ps) x is = elim (test (granule n p, j)) as (λ b. test (granule n p, j) ≡ b → cond b (Some (granule n p, j)) (find test (numbered n (j + 1) ps)) ≡ Some x
        → (i : ℕ) × ((x.1 ≡ j + i) × (find later (drop i (numbered n j (p ∷ ps))) ≡ find later (numbered n j (p ∷ ps))))) [
          | true ↦ λ t e.
              let same : j ≡ x.1 = ap (λ (y : Anchored). y.1) (same_Some (granule n p, j) x e) in
              let at : x.1 ≡ j + 0 = omega (arith, same) in
              (0, (at, refl))
          | false ↦ λ t e.
              let rest = goes_on_from n (j + 1) ps x e in
              let at : x.1 ≡ j + suc rest.0 = omega (arith, rest.1.0) in
              let skip : find later (numbered n j (p ∷ ps)) ≡ find later (numbered n (j + 1) ps) = ap (λ b. cond b (Some (granule n p, j)) (find later (numbered n (j + 1) ps))) (fewer (granule n p, j) t) in
              (suc rest.0, (at, rest.1.1 ∙ sym skip))
        ] refl is

    unit_goes_on : (n : ℕ) (form : UnitForm) (x : Anchored) → find test (unit_anchors old (n, form)) ≡ Some x
        → find later (drop x.1 (unit_anchors old (n, form))) ≡ find later (unit_anchors old (n, form))
    unit_goes_on n form x is =
        let at = goes_on_from n 0 (anchors_of old form) x is in
        let same : x.1 ≡ at.0 = omega (arith, at.1.0) in
        ap (λ i. find later (drop i (unit_anchors old (n, form)))) same ∙ at.1.1

    pub none_later : (xs : List Anchored) → find test xs ≡ None → find later xs ≡ None
    none_later [] none = refl
    none_later (x ∷ xs) none = elim (test x) as (λ b. test x ≡ b → cond b (Some x) (find test xs) ≡ None → find later (x ∷ xs) ≡ None) [
      | true ↦ λ t e. absurd cc
      | false ↦ λ t e. ap (λ b. cond b (Some x) (find later xs)) (fewer x t) ∙ none_later xs e
    ] refl none

    either_list : (xs ys : List Anchored) → find later (xs ++ ys) ≡ option_or (find later xs) (find later ys)
    either_list [] ys = refl
    either_list (x ∷ xs) ys = elim (later x) as (λ b. cond b (Some x) (find later (xs ++ ys)) ≡ option_or (cond b (Some x) (find later xs)) (find later ys)) [
      | true ↦ refl
      | false ↦ either_list xs ys
    ]

    -- what is found in a unit and those behind it is found in the one, or else behind it
    either_unit : (G : Type 0) (xs ys : List Anchored) (x : Anchored) → find test (xs ++ ys) ≡ Some x
        → (find test xs ≡ Some x → G) → (find test xs ≡ None → find test ys ≡ Some x → G) → G
    either_unit G xs ys x is here there = on (find test xs) refl
      where
        on : (o : Option Anchored) → find test xs ≡ o → G
        on None e = there e (sym (find-append test xs ys e) ∙ is)
        on (Some y) e = here (e ∙ ap Some (same_Some y x (sym (find-first test xs ys y e) ∙ is)))

    found_behind : (k : ℕ) (forms : List UnitForm) (x : Anchored) → find test (all_in (enumerate_from k forms)) ≡ Some x → k ≤ (x.0).unit
    found_behind k [] x is = absurd cc
    found_behind k (form ∷ forms) x is = either_unit (k ≤ (x.0).unit) (unit_anchors old (k, form)) (all_in (enumerate_from (k + 1) forms)) x is
        (λ e. let n = found_unit test k 0 (anchors_of old form) x e in omega (arith, n))
        (λ none e. let more = found_behind (k + 1) forms x e in omega (arith, more))

    pub goes_on_in : (k : ℕ) (forms : List UnitForm) (x : Anchored) → find test (all_in (enumerate_from k forms)) ≡ Some x
        → find later (ahead_in old (x.0).unit x.1 (enumerate_from k forms)) ≡ find later (all_in (enumerate_from k forms))
    goes_on_in k [] x is = refl
    goes_on_in k (form ∷ forms) x is =
        let here = unit_anchors old (k, form) in
        let behind = all_in (enumerate_from (k + 1) forms) in
        either_unit (find later (ahead_in old (x.0).unit x.1 (enumerate_from k (form ∷ forms))) ≡ find later (all_in (enumerate_from k (form ∷ forms)))) here behind x is
        (λ e.
        let n : (x.0).unit ≡ k = found_unit test k 0 (anchors_of old form) x e in
        let same : (k == (x.0).unit) ≡ true = grind (arith, nat_tests) in
        rw same (alike (drop x.1 here) here behind (unit_goes_on k form x e)))
        (λ none e.
        let more = found_behind (k + 1) forms x e in
        let other : (k == (x.0).unit) ≡ false = grind (arith, nat_tests) in
        rw other (goes_on_in (k + 1) forms x e ∙ sym (find-append later here behind (none_later here none))))
      where
        alike : (xs ys zs : List Anchored) → find later xs ≡ find later ys → find later (xs ++ zs) ≡ find later (ys ++ zs)
        alike xs ys zs same = either_list xs zs ∙ ap (λ (o : Option Anchored). option_or o (find later zs)) same ∙ sym (either_list ys zs)
