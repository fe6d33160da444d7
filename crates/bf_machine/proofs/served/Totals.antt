-- Sums over the sessions of a script, counted from 1.
use Rattle.std.proofs.Common.{ℕ, zero, suc, ◌+◌, ◌<◌, ◌≤◌, arith, inl, inr, subst}
use Rattle.std.proofs.lemmas.Bool.{cases_eq}

abbrev pub total : (ℕ → ℕ) → ℕ → ℕ
total f zero = 0
total f (suc n) = f (suc n) + total f n

pub total_no_more : (f g : ℕ → ℕ) → ((s : ℕ) → f s ≤ g s) → (n : ℕ) → total f n ≤ total g n
total_no_more f g no_more zero = omega arith
total_no_more f g no_more (suc n) = omega (arith, no_more (suc n), total_no_more f g no_more n)

-- less at one session and nowhere more
pub total_less : (f g : ℕ → ℕ) → ((s : ℕ) → f s ≤ g s) → (s : ℕ) → 1 ≤ s → f s < g s → (n : ℕ) → s ≤ n → total f n < total g n
total_less f g no_more s low less zero high = absurd (omega (arith, low, high))
total_less f g no_more s low less (suc n) high = elim (cases_eq s (suc n)) as (λ _. total f (suc n) < total g (suc n)) [
  | inl same ↦
      let here : f (suc n) < g (suc n) = subst (λ (k : ℕ). f k < g k) same less in
      omega (arith, here, total_no_more f g no_more n)
  | inr apart ↦
      let below : s ≤ n = grind (arith, high, apart) in
      omega (arith, no_more (suc n), total_less f g no_more s low less n below)
]
