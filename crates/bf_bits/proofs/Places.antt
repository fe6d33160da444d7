-- Bits of words, and the states that they say.
use Rattle.std.proofs.Common.{◌≡◌, ◌≢◌, ℕ, zero, suc, ◌-◌, ◌/◌, ◌%◌, ◌^◌, ◌<◌, ◌⊎◌, ⊎_elim, sym, ap, ◌∙◌, arith, bit_and, bit_or}
use Rattle.std.specs.Int.{bit_at, bit_not}
use Rattle.std.proofs.lemmas.Nat.Bits.{bit_at_set_same, bit_at_set_other, bit_at_clear_same, bit_at_clear_other, bit_at-lt, bit_at-zero, bit_at_ones}
use mir.Syntax.{w64}
use mathlib.Core.Logic.{dite}
use native.Mathlib.Decide.{ℕ_discrete}
use Rattle.bf_bits.specs.declared.answer.Look.TheVariants.{Free, Held, Done}
use Rattle.bf_bits.specs.Words.{lock_place, migrate_place, mask, lock_in, migrate_in, state_by}

-- two positions of one word have other places in it
pub apart : (p q : ℕ) → p / 32 ≡ q / 32 → p ≢ q → p % 32 ≢ q % 32
apart p q same ne e = ne (omega arith)

-- the places of p in its word
pub lock_within : (p : ℕ) → lock_place p < 64
lock_within p = omega arith

pub migrate_within : (p : ℕ) → migrate_place p < 64
migrate_within p = omega arith

pub not_one : (n i : ℕ) → bit_at n i ≢ 0 → bit_at n i ≡ 1
not_one n i ne = let lt = bit_at-lt n i in one_of (bit_at n i) ne lt
  where
    one_of : (b : ℕ) → b ≢ 0 → b < 2 → b ≡ 1
    one_of b ne lt = omega (arith, ne)

-- what the lock bit and the migrate bit of others are once the bit k is set
pub set_others : (q k m : ℕ) → ((k ≡ lock_place q) ⊎ (k ≡ migrate_place q)) → (p : ℕ) → p % 32 ≢ q % 32 → (lock_in (bit_or m (mask k)) p ≡ lock_in m p) × (migrate_in (bit_or m (mask k)) p ≡ migrate_in m p)
set_others q k m is p ne =
    let small : k < 64 = ⊎_elim (λ e. let l = lock_within q in omega arith) (λ e. let l = migrate_within q in omega arith) is in
    let a : lock_place p ≢ k = λ e. ⊎_elim (λ f. ne (omega arith)) (λ f. omega arith) is in
    let b : migrate_place p ≢ k = λ e. ⊎_elim (λ f. omega arith) (λ f. ne (omega arith)) is in
    (bit_at_set_other w64 m k small (lock_place p) a, bit_at_set_other w64 m k small (migrate_place p) b)

pub clear_others : (q m : ℕ) → (p : ℕ) → p % 32 ≢ q % 32 → (lock_in (bit_and m (bit_not w64 (mask (lock_place q)))) p ≡ lock_in m p) × (migrate_in (bit_and m (bit_not w64 (mask (lock_place q)))) p ≡ migrate_in m p)
clear_others q m p ne =
    (bit_at_clear_other w64 m (lock_place q) (lock_within q) (lock_place p) (lock_within p) (λ e. ne (omega arith)), bit_at_clear_other w64 m (lock_place q) (lock_within q) (migrate_place p) (migrate_within p) (λ e. omega arith))

-- ---- a mask tells its place
same_mask : (k j : ℕ) → k < 64 → j < 64 → mask k ≡ mask j → k ≡ j
same_mask k j kw jw e = dite (ℕ_discrete k j) (λ is. is) (λ ne.
    let one = bit_at_set_same w64 0 k kw in
    let none_there = bit_at_set_other w64 0 j jw k ne ∙ bit_at-zero k in
    absurd (zero_one (sym one ∙ (ap (λ (m : ℕ). bit_at (bit_or 0 m) k) e ∙ none_there))))
  where
    zero_one : suc zero ≡ zero → ⊥
    zero_one z = omega arith

pub lock_at : (p q : ℕ) → p / 32 ≡ q / 32 → mask (lock_place p) ≡ mask (lock_place q) → p ≡ q
lock_at p q same e = let k = same_mask (lock_place p) (lock_place q) (lock_within p) (lock_within q) e in omega arith

pub migrate_at : (p q : ℕ) → p / 32 ≡ q / 32 → mask (migrate_place p) ≡ mask (migrate_place q) → p ≡ q
migrate_at p q same e = let k = same_mask (migrate_place p) (migrate_place q) (migrate_within p) (migrate_within q) e in omega arith

same_keep : (k j : ℕ) → k < 64 → j < 64 → bit_not w64 (mask k) ≡ bit_not w64 (mask j) → k ≡ j
same_keep k j kw jw e = dite (ℕ_discrete k j) (λ is. is) (λ ne.
    let none_there = bit_at_clear_same w64 (2 ^ 64 - 1) k kw in
    let one = bit_at_clear_other w64 (2 ^ 64 - 1) j jw k kw ne ∙ bit_at_ones 64 k kw in
    absurd (zero_one (sym one ∙ (sym (ap (λ (m : ℕ). bit_at (bit_and (2 ^ 64 - 1) m) k) e) ∙ none_there))))
  where
    zero_one : suc zero ≡ zero → ⊥
    zero_one z = omega arith

pub keep_at : (p q : ℕ) → p / 32 ≡ q / 32 → bit_not w64 (mask (lock_place p)) ≡ bit_not w64 (mask (lock_place q)) → p ≡ q
keep_at p q same e = let k = same_keep (lock_place p) (lock_place q) (lock_within p) (lock_within q) e in omega arith

-- ---- the state that two bits say
pub state_free : {l m : ℕ} → l ≡ 0 → m ≡ 0 → state_by l m ≡ Free
state_free a b i = state_by (a i) (b i)

pub state_held : {l m : ℕ} → l ≡ 1 → m ≡ 0 → state_by l m ≡ Held
state_held a b i = state_by (a i) (b i)

pub state_done : (l m : ℕ) → m ≡ 1 → state_by l m ≡ Done
state_done l m b i = state_by l (b i)
