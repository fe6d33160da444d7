-- One granule more.
use Rattle.std.proofs.Common.{◌≡◌, ℕ, zero, suc, ◌+◌, ◌-◌, ◌<◌, ◌≤◌, Bool, false, cond, List, [], ◌∷◌, ◌++◌, None, Option, Some, filter, length, get_or, map, slice_get, take, refl, sym, ap, ◌∙◌, arith}
use Rattle.std.specs.Option.{option_to_list}
use Rattle.std.proofs.lemmas.List.{append-nil, map-append, take_all, take_more}
use Rattle.std.proofs.lemmas.List.Elements.{filter-append}
use Rattle.std.proofs.lemmas.List.FromFn.{map-range_with_len_more}
use Rattle.std.proofs.lemmas.Option.{same_Some}
use Rattle.bf_base.specs.declared.granule.Granule.{Granule}
use Rattle.bf_base.specs.declared.granule.Place.TheVariants.{Group, Row}
use Rattle.bf_base.specs.declared.value.Value.{Value}
use Rattle.bf_sql.specs.migrations.Granules.{granule}
use Rattle.bf_index.specs.ByValues.{Valued, value_of}
use Rattle.bf_transpose.specs.Scans.{granules_at, row_granules, value_granules}

-- the first items and the next, if there is one
take_some : {X : Type 0} (xs : List X) (i : ℕ) (x : X) → Some x ≡ slice_get xs i → take (i + 1) xs ≡ take i xs ++ x ∷ []
take_some [] zero x is = absurd cc
take_some [] (suc i) x is = absurd cc
take_some (y ∷ xs) zero x is = ap (λ z. z ∷ []) (sym (same_Some x y is))
take_some (y ∷ xs) (suc i) x is =
    let next : suc i + 1 ≡ suc (i + 1) = omega arith in
    rw next (ap (λ zs. y ∷ zs) (take_some xs i x is))

pub take_none : {X : Type 0} (xs : List X) (i : ℕ) → None ≡ slice_get xs i → take (i + 1) xs ≡ take i xs
take_none [] zero is = refl
take_none [] (suc i) is = let next : suc i + 1 ≡ suc (i + 1) = omega arith in rw next refl
take_none (y ∷ xs) zero is = absurd cc
take_none (y ∷ xs) (suc i) is =
    let next : suc i + 1 ≡ suc (i + 1) = omega arith in
    rw next (ap (λ zs. y ∷ zs) (take_none xs i is))

-- the first items and what stands next
take_next : {X : Type 0} (xs : List X) (i : ℕ) → take (i + 1) xs ≡ take i xs ++ option_to_list (slice_get xs i)
take_next {X = X} xs i = of (slice_get xs i) refl
  where
    of : (o : Option X) → slice_get xs i ≡ o → take (i + 1) xs ≡ take i xs ++ option_to_list o
    of None is = take_none xs i (sym is) ∙ sym (append-nil (take i xs))
    of (Some x) is = take_some xs i x (sym is)

-- what no step of a stretch changes
still : {X : Type 0} (f : ℕ → X) (first more : ℕ) → ((at : ℕ) → first ≤ at → at < first + more → f (at + 1) ≡ f at) → f (first + more) ≡ f first
still f first zero same = let none : first + zero ≡ first = omega arith in ap f none
still f first (suc more) same =
    let next : first + suc more ≡ first + more + 1 = omega arith in
    ap f next ∙ (same (first + more) (omega arith) (omega arith) ∙ still f first more (λ at low high. same at low (omega arith)))

still_to : {X : Type 0} (f : ℕ → X) (first end : ℕ) → first ≤ end → ((at : ℕ) → first ≤ at → at < end → f (at + 1) ≡ f at) → f end ≡ f first
still_to f first end ordered same =
    let sum : first + (end - first) ≡ end = omega (arith, ordered) in
    ap f (sym sum) ∙ still f first (end - first) (λ at low high. same at low (omega (arith, high, ordered)))

module _ (unit : ℕ) where
  pub row_more : (position : ℕ) → row_granules unit (position + 1) ≡ row_granules unit position ++ granule unit (Row position) ∷ []
  row_more position =
      let same : 0 + position ≡ position = omega arith in
      map-range_with_len_more (λ at. granule unit (Row at)) 0 position position same

  pub value_more : (values : List Valued) (at : ℕ) (entry : Valued) → Some entry ≡ slice_get values at
      → value_granules unit (map value_of (take (at + 1) values)) ≡ value_granules unit (map value_of (take at values)) ++ granule unit (Group entry.0) ∷ []
  value_more values at entry is =
      ap (λ (vs : List Valued). value_granules unit (map value_of vs)) (take_some values at entry is)
      ∙ (ap (value_granules unit) (map-append value_of (take at values) (entry ∷ [])) ∙ map-append (λ value. granule unit (Group value)) (map value_of (take at values)) (entry.0 ∷ []))

  module _ (test : Granule → Bool) where
    pub listed_tested : (positions : List ℕ) (i : ℕ) → i < length positions
        → filter test (granules_at unit (take (i + 1) positions)) ≡ filter test (granules_at unit (take i positions)) ++ filter test (granule unit (Row (get_or positions i 0)) ∷ [])
    listed_tested positions i below =
        ap (λ ps. filter test (granules_at unit ps)) (take_more positions i 0 below)
        ∙ (ap (filter test) (map-append (λ at. granule unit (Row at)) (take i positions) (get_or positions i 0 ∷ []))
        ∙ filter-append test (granules_at unit (take i positions)) (granule unit (Row (get_or positions i 0)) ∷ []))

    pub row_tested : (position : ℕ) → filter test (row_granules unit (position + 1)) ≡ filter test (row_granules unit position) ++ filter test (granule unit (Row position) ∷ [])
    row_tested position = ap (filter test) (row_more position) ∙ filter-append test (row_granules unit position) (granule unit (Row position) ∷ [])

    pub value_tested : (values : List Valued) (at : ℕ)
        → filter test (value_granules unit (map value_of (take (at + 1) values))) ≡ filter test (value_granules unit (map value_of (take at values))) ++ filter test (value_granules unit (map value_of (option_to_list (slice_get values at))))
    value_tested values at =
        let next = option_to_list (slice_get values at) in
        ap (λ (vs : List Valued). filter test (value_granules unit (map value_of vs))) (take_next values at)
        ∙ (ap (λ (vs : List (List Value)). filter test (value_granules unit vs)) (map-append value_of (take at values) next)
        ∙ (ap (filter test) (map-append (λ value. granule unit (Group value)) (map value_of (take at values)) (map value_of next))
        ∙ filter-append test (value_granules unit (map value_of (take at values))) (value_granules unit (map value_of next))))

    one_failed : (g : Granule) → test g ≡ false → filter test (g ∷ []) ≡ []
    one_failed g fails = ap (λ b. cond b (g ∷ []) []) fails

    -- where the positions from one to another fail, they add nothing
    row_failed : (at : ℕ) → test (granule unit (Row at)) ≡ false → filter test (row_granules unit (at + 1)) ≡ filter test (row_granules unit at)
    row_failed at fails =
        row_tested at
        ∙ (ap (λ (gs : List Granule). filter test (row_granules unit at) ++ gs) (one_failed (granule unit (Row at)) fails)
        ∙ append-nil (filter test (row_granules unit at)))

    pub none_from : (first end : ℕ) → first ≤ end → ((at : ℕ) → first ≤ at → at < end → test (granule unit (Row at)) ≡ false) → filter test (row_granules unit end) ≡ filter test (row_granules unit first)
    none_from first end ordered fails = still_to (λ n. filter test (row_granules unit n)) first end ordered (λ at low high. row_failed at (fails at low high))

    pub none_to : (n : ℕ) → ((at : ℕ) → at < n → test (granule unit (Row at)) ≡ false) → filter test (row_granules unit n) ≡ []
    none_to n fails = none_from 0 n (omega arith) (λ at low high. fails at high)

    -- nor do the values from one to another
    module _ (values : List Valued) where
      abbrev tested : ℕ → List Granule
      tested n = filter test (value_granules unit (map value_of (take n values)))

      value_failed : (at : ℕ) → ((entry : Valued) → slice_get values at ≡ Some entry → test (granule unit (Group (value_of entry))) ≡ false) → tested (at + 1) ≡ tested at
      value_failed at fails =
          value_tested values at
          ∙ (ap (λ (gs : List Granule). tested at ++ gs) (of (slice_get values at) refl)
          ∙ append-nil (tested at))
        where
          of : (o : Option Valued) → slice_get values at ≡ o → filter test (value_granules unit (map value_of (option_to_list o))) ≡ []
          of None is = refl
          of (Some entry) is = one_failed (granule unit (Group (value_of entry))) (fails entry is)

      pub no_value_from : (first : ℕ) → first ≤ length values → ((at : ℕ) (entry : Valued) → slice_get values at ≡ Some entry → first ≤ at → test (granule unit (Group (value_of entry))) ≡ false)
          → filter test (value_granules unit (map value_of values)) ≡ tested first
      no_value_from first ordered fails =
          ap (λ (vs : List Valued). filter test (value_granules unit (map value_of vs))) (sym (take_all (length values) values (omega arith)))
          ∙ still_to tested first (length values) ordered (λ at low high. value_failed at (λ entry is. fails at entry is low))

      pub no_value_to : (n : ℕ) → ((at : ℕ) (entry : Valued) → slice_get values at ≡ Some entry → at < n → test (granule unit (Group (value_of entry))) ≡ false) → tested n ≡ []
      no_value_to n fails = still_to tested 0 n (omega arith) (λ at low high. value_failed at (λ entry is. fails at entry is high))
