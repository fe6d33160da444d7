-- The units of a target, looked up one after another, each with its old tables.
use Rattle.std.proofs.Common.{◌≡◌, ℕ, ◌+◌, ◌<◌, ◌≤◌, false, List, [], ◌∷◌, ◌++◌, Option, Some, inl, inr, length, slice_get, unwrap_or, eqb, sym, ap, subst, ◌∙◌, arith}
use Rattle.std.specs.List.{list_any}
use Rattle.std.specs.Option.{option_and_then, option_map}
use Rattle.std.proofs.lemmas.Bool.{cases_lt}
use Rattle.std.proofs.lemmas.List.{get_or_append_left, length_push}
use Rattle.std.proofs.lemmas.Option.{slice_get-get_or, slice_get_past}
use Rattle.std.proofs.Math.Seq.{get_or-append_seam}
use Rattle.bf_tree.specs.declared.plan.Unit.{Unit as Planned}
use Rattle.bf_image.specs.declared.frozen_unit.FrozenUnit.{FrozenUnit}
use Rattle.bf_image.specs.declared.migration.Migration.{Migration}
use Rattle.bf_transpose.specs.Scans.{AreUnitsFor, IsUnitFor, has_arm}

-- an item stays at its place where one more is put behind
at_before : {X : Type 0} (xs : List X) (x : X) (n : ℕ) → n < length xs → slice_get xs n ≡ slice_get (xs ++ x ∷ []) n
at_before xs x n within =
    let longer : n < length (xs ++ x ∷ []) = omega (arith, within, length_push xs x) in
    slice_get-get_or xs n x within ∙ (ap Some (sym (get_or_append_left xs (x ∷ []) x n within)) ∙ sym (slice_get-get_or (xs ++ x ∷ []) n x longer))

-- and that one stands behind them
at_end : {X : Type 0} (xs : List X) (x : X) → Some x ≡ slice_get (xs ++ x ∷ []) (length xs)
at_end xs x =
    let longer : length xs < length (xs ++ x ∷ []) = omega (arith, length_push xs x) in
    ap Some (sym (get_or-append_seam xs x [] x)) ∙ sym (slice_get-get_or (xs ++ x ∷ []) (length xs) x longer)

module _ (m : Migration) (target : ℕ) where
  -- a place among some units has the unit of its number
  abbrev pub IsUnitAt : ℕ → Option (Option FrozenUnit) → Type 0
  IsUnitAt n found = IsUnitFor m target n (option_and_then (λ (unit : Option FrozenUnit). unit) found)

  -- each of the first places does
  abbrev pub AreUnitsTo : ℕ → List (Option FrozenUnit) → Type 0
  AreUnitsTo count units = (n : ℕ) → n < count → IsUnitAt n (slice_get units n)

  -- one more of them
  pub one_more_unit : (units : List (Option FrozenUnit)) (count : ℕ) → length units ≡ count → AreUnitsTo count units → (unit : Option FrozenUnit) → IsUnitFor m target count unit → AreUnitsTo (count + 1) (units ++ unit ∷ [])
  one_more_unit units count counted so_far unit is n below =
      elim (cases_lt n count) [
        | inl before ↦ subst (λ (found : Option (Option FrozenUnit)). IsUnitAt n found) (at_before units unit n (omega (arith, before, counted))) (so_far n before)
        | inr after ↦
            let last : n ≡ count = omega (arith, below, after) in
            let here : Some unit ≡ slice_get (units ++ unit ∷ []) count = at_end units unit ∙ ap (slice_get (units ++ unit ∷ [])) counted in
            subst (λ (k : ℕ). IsUnitAt k (slice_get (units ++ unit ∷ []) k)) (sym last) (subst (λ (found : Option (Option FrozenUnit)). IsUnitAt count found) here is)
      ]

  -- a unit that is not there has no arm
  no_arm_past : (n : ℕ) → length m.plan.units ≤ n → has_arm m target n ≡ false
  no_arm_past n past = ap (λ (o : Option Planned). unwrap_or (option_map (λ (u : Planned). list_any (λ arm. eqb arm.0 target) u.arms) o) false) (slice_get_past m.plan.units n past)

  -- all of them
  pub all_units : (units : List (Option FrozenUnit)) (count : ℕ) → length units ≡ count → length m.plan.units ≤ count → AreUnitsTo count units → AreUnitsFor m target units
  all_units units count counted all each n =
      elim (cases_lt n count) [
        | inl below ↦ each n below
        | inr past ↦ subst (λ (found : Option (Option FrozenUnit)). IsUnitAt n found) (sym (slice_get_past units n (omega (arith, past, counted)))) (no_arm_past n (omega (arith, past, all)))
      ]
