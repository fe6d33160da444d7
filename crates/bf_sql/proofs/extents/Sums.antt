-- A sum of numbers between two ends lies between as many times the ends.
use Rattle.std.proofs.Common.{◌≡◌, ℕ, suc, ◌≤◌, ℤ, pos, ◌+ℤ◌, ◌*ℤ◌, ◌≤ℤ◌, int_le, true, List, [], ◌∷◌, length, fold, ◌∙◌, arith}
use Rattle.std.specs.Int.{int_min, int_max}
use Rattle.std.specs.List.{list_all}
use Rattle.std.proofs.lemmas.Bool.{and_parts, false≢true}
use Rattle.std.proofs.lemmas.Int.{ints, clamps}
use lib.IntN.{suc_ℤ-*ℤ, zero-*ℤ, *ℤ_comm, *ℤ-one, one}
use Rattle.bf_base.specs.declared.value.Value.{Value}
use Rattle.bf_base.specs.declared.value.Value.TheVariants.{Int, Text}
use Rattle.bf_tree.specs.Evaluation.{number_of}
use Rattle.bf_sql.specs.migrations.Extents.{numbers}
use Rattle.bf_tree.specs.Totals.{exact_sum}
use Rattle.bf_sql.specs.migrations.Within.{is_within}
use Rattle.bf_sql.proofs.extents.Order.{tells, scaled}

-- a number of times the least, behind what was summed before
abbrev after : ℤ → ℤ → List Value → ℤ
after before z values = before +ℤ pos (length values) *ℤ z

sum_from : (low high before : ℤ) (values : List Value) → list_all (is_within (numbers low high)) values ≡ true
    → (after before low values ≤ℤ fold (λ sum v. sum +ℤ number_of v) before values) × (fold (λ sum v. sum +ℤ number_of v) before values ≤ℤ after before high values)
sum_from low high before [] all =
    let least = zero-*ℤ low in
    let greatest = zero-*ℤ high in
    (omega (arith, ints), omega (arith, ints))
sum_from low high before (Int n ∷ values) all =
    let first = and_parts (int_le low n) (int_le n high) (and_parts (is_within (numbers low high) (Int n)) (list_all (is_within (numbers low high)) values) all).0 in
    let rest = sum_from low high (before +ℤ n) values (and_parts (is_within (numbers low high) (Int n)) (list_all (is_within (numbers low high)) values) all).1 in
    let left = tells low n first.0 in
    let right = tells n high first.1 in
    let least : pos (suc (length values)) *ℤ low ≡ pos (length values) *ℤ low +ℤ low = suc_ℤ-*ℤ (pos (length values)) low in
    let greatest : pos (suc (length values)) *ℤ high ≡ pos (length values) *ℤ high +ℤ high = suc_ℤ-*ℤ (pos (length values)) high in
    let low_end = rest.0 in
    let high_end = rest.1 in
    (omega (arith, ints), omega (arith, ints))
sum_from low high before (Text t ∷ values) all = absurd (false≢true all)

pub sum_between : (low high : ℤ) (values : List Value) → list_all (is_within (numbers low high)) values ≡ true
    → ((pos (length values) *ℤ low) ≤ℤ exact_sum values) × (exact_sum values ≤ℤ (pos (length values) *ℤ high))
sum_between low high values all =
    let sum = sum_from low high (pos 0) values all in
    let low_end = sum.0 in
    let high_end = sum.1 in
    (omega (arith, ints), omega (arith, ints))

-- at least once, and at most so many times
pub times_between : (k most : ℕ) (z : ℤ) → 1 ≤ k → k ≤ most → (int_min z (pos most *ℤ z) ≤ℤ (pos k *ℤ z)) × ((pos k *ℤ z) ≤ℤ int_max z (pos most *ℤ z))
unfolding one
times_between k most z some few =
    let once : pos 1 *ℤ z ≡ z = *ℤ_comm (pos 1) z ∙ *ℤ-one z in
    let between = scaled (pos 1) (pos k) (pos most) z (omega (arith, ints)) (omega (arith, ints)) in
    let low = between.0 in
    let high = between.1 in
    (omega (arith, ints, clamps), omega (arith, ints, clamps))

-- or not even once
pub times_from_none : (k most : ℕ) (z : ℤ) → k ≤ most → (int_min (pos 0) (pos most *ℤ z) ≤ℤ (pos k *ℤ z)) × ((pos k *ℤ z) ≤ℤ int_max (pos 0) (pos most *ℤ z))
times_from_none k most z few =
    let never = zero-*ℤ z in
    let between = scaled (pos 0) (pos k) (pos most) z (omega (arith, ints)) (omega (arith, ints)) in
    let low = between.0 in
    let high = between.1 in
    (omega (arith, ints, clamps), omega (arith, ints, clamps))
