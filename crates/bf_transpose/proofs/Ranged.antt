-- Values outside a range that has all which give what is sought give nothing.
use Rattle.std.proofs.Common.{◌≡◌, ℕ, ◌+◌, ◌<◌, ◌≤◌, Bool, true, false, not, ◌&&◌, List, drop, take, Some, slice_get, refl, sym, ap, ◌∙◌, inl, inr, arith}
use Rattle.std.specs.List.{list_all}
use Rattle.std.proofs.lemmas.Bool.{cases_Bool, false≢true}
use Rattle.bf_base.specs.declared.granule.Place.TheVariants.{Group}
use Rattle.bf_heap.specs.KeyRanges.{is_before, is_behind, is_within}
use Rattle.bf_heap.specs.declared.key_range.KeyRange.{KeyRange}
use Rattle.bf_sql.specs.migrations.Granules.{granule}
use Rattle.bf_index.specs.ByValues.{Valued, value_of}
use Rattle.bf_transpose.specs.Scans.{AreWithin, gives}
use Rattle.bf_transpose.specs.declared.scan.Search.{Search}
use Rattle.bf_transpose.proofs.Bounded.{passed_above, passed_below}

module _ (s : Search) (unit : ℕ) (values : List Valued) (range : KeyRange) (within : AreWithin s unit values range) where
  abbrev given : Valued → Bool
  given entry = gives s.migration.now s.target s.cond.now (granule unit (Group (value_of entry)))

  fails : (at : ℕ) (entry : Valued) → slice_get values at ≡ Some entry → is_within range (value_of entry) ≡ false → given entry ≡ false
  fails at entry is outside = elim (cases_Bool (given entry)) [
    | inl gives_one ↦ absurd (false≢true (sym outside ∙ within at entry is gives_one))
    | inr none ↦ none
  ]

  pub none_before : (n : ℕ) → list_all (λ entry. is_before range.low (value_of entry)) (take n values) ≡ true → (at : ℕ) (entry : Valued) → slice_get values at ≡ Some entry → at < n → given entry ≡ false
  none_before n before at entry is less =
      let passed = passed_below (is_before range.low) values n at entry before (omega (arith, less)) is in
      fails at entry is (ap (λ b. not b && not (is_behind range.high (value_of entry))) passed)

  pub none_behind : (n : ℕ) → list_all (λ entry. is_behind range.high (value_of entry)) (drop n values) ≡ true → (at : ℕ) (entry : Valued) → slice_get values at ≡ Some entry → n ≤ at → given entry ≡ false
  none_behind n behind at entry is above =
      let passed = passed_above (is_behind range.high) values n at entry behind above is in
      fails at entry is (ap (λ b. not (is_before range.low (value_of entry)) && not b) passed ∙ and_false (not (is_before range.low (value_of entry))))
    where
      and_false : (b : Bool) → (b && false) ≡ false
      and_false true = refl
      and_false false = refl
