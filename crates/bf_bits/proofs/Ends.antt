-- The rule at the making, at the close, and in the words of a reader.
use Rattle.std.proofs.Common.{◌≡◌, ℕ, zero, suc, ◌/◌, ◌<◌, inl, inr, List, [], ◌∷◌, ◌++◌, length, get_or, set, sym, refl, ap, ◌∙◌, subst, arith, get_or-set_same, bit_or, replicate}
use Rattle.std.proofs.lemmas.List.{get_or-set_other}
use Rattle.std.proofs.lemmas.Nat.Bits.{bit_at_set_same, bit_at_set_other, bit_at-lt, bit_at-zero}
use mir.Syntax.{w64}
use mathlib.Core.Logic.{dite}
use mathlib.Core.Option.{some}
use native.Mathlib.Decide.{ℕ_discrete}
use lib.ListN.{get_elem?}
use Rattle.atomic_table.specs.Table.{opening}
use Rattle.bf_bits.specs.declared.rule.View.{View}
use Rattle.bf_bits.specs.Positions.{times}
use Rattle.bf_bits.specs.Words.{lock_place, migrate_place, mask, lock_in, migrate_in, AreMarked}
use Rattle.bf_bits.specs.Tracker.{AreFour, beginner, finishers, Orderly, Tracks}
use Rattle.bf_bits.proofs.Counting.{times-here, times-other, times-append, total-at}
use Rattle.bf_bits.proofs.Places.{apart, lock_within, migrate_within, set_others}
use Rattle.bf_bits.proofs.Moves.{St, done_numbers}

-- ---- the beginning
pub marked_none : (count : ℕ) → AreMarked (replicate count 0) []
marked_none count p = let z = get_or-zeros count (p / 32) in
    (ap (λ (n : ℕ). lock_in n p) z ∙ bit_at-zero (lock_place p), ap (λ (n : ℕ). migrate_in n p) z ∙ bit_at-zero (migrate_place p))
  where
    get_or-zeros : (count i : ℕ) → get_or (replicate count zero) i zero ≡ zero
    get_or-zeros zero i = refl
    get_or-zeros (suc count) zero = refl
    get_or-zeros (suc count) (suc i) = get_or-zeros count i

pub marked_more : (words xs : List ℕ) (q : ℕ) → q / 32 < length words → times q xs ≡ 0 → AreMarked words xs → AreMarked (set words (q / 32) (bit_or (bit_or (get_or words (q / 32) 0) (mask (lock_place q))) (mask (migrate_place q)))) (xs ++ q ∷ [])
marked_more words xs q within fresh all p =
    let n = get_or words (q / 32) 0 in
    let m : ℕ = bit_or n (mask (lock_place q)) in
    let k : ℕ = bit_or m (mask (migrate_place q)) in
    let there : get_or (set words (q / 32) k) (q / 32) 0 ≡ k = get_or-set_same words (q / 32) k 0 within in
    let t = times-append p xs (q ∷ []) in
    dite (ℕ_discrete p q)
    (λ e.
    let a : lock_in k q ≡ 1 = bit_at_set_other w64 m (migrate_place q) (migrate_within q) (lock_place q) (λ z. omega arith) ∙ bit_at_set_same w64 n (lock_place q) (lock_within q) in
    let b : migrate_in k q ≡ 1 = bit_at_set_same w64 m (migrate_place q) (migrate_within q) in
    let one : 1 ≡ times q (xs ++ q ∷ []) = let u = times-append q xs (q ∷ []) in let v = times-here q [] in omega arith in
    subst (λ (p : ℕ). (lock_in (get_or (set words (q / 32) k) (p / 32) 0) p ≡ times p (xs ++ q ∷ [])) × (migrate_in (get_or (set words (q / 32) k) (p / 32) 0) p ≡ times p (xs ++ q ∷ []))) (sym e)
    (ap (λ (n : ℕ). lock_in n q) there ∙ (a ∙ one), ap (λ (n : ℕ). migrate_in n q) there ∙ (b ∙ one)))
    (λ ne.
    let same : times p xs ≡ times p (xs ++ q ∷ []) = let o = times-other p q [] ne in omega arith in
    let old = all p in
    dite (ℕ_discrete (p / 32) (q / 32))
    (λ e.
    let far = apart p q e ne in
    let one = set_others q (lock_place q) n (inl refl) p far in
    let two = set_others q (migrate_place q) m (inr refl) p far in
    let here : get_or (set words (q / 32) k) (p / 32) 0 ≡ k = ap (λ (i : ℕ). get_or (set words (q / 32) k) i 0) e ∙ there in
    let was : n ≡ get_or words (p / 32) 0 = ap (λ (i : ℕ). get_or words i 0) (sym e) in
    (ap (λ (x : ℕ). lock_in x p) here ∙ (two.0 ∙ (one.0 ∙ (ap (λ (x : ℕ). lock_in x p) was ∙ (old.0 ∙ same)))), ap (λ (x : ℕ). migrate_in x p) here ∙ (two.1 ∙ (one.1 ∙ (ap (λ (x : ℕ). migrate_in x p) was ∙ (old.1 ∙ same))))))
    (λ far.
    let here : get_or (set words (q / 32) k) (p / 32) 0 ≡ get_or words (p / 32) 0 = get_or-set_other words (q / 32) (p / 32) k 0 far in
    (ap (λ (x : ℕ). lock_in x p) here ∙ (old.0 ∙ same), ap (λ (x : ℕ). migrate_in x p) here ∙ (old.1 ∙ same))))

pub begins : (words done : List ℕ) (count granules : ℕ) → length words ≡ count → AreMarked words done → ((p : ℕ) → 0 < times p done → p < granules) → Tracks count granules (opening words [] (beginner done))
begins words done count granules len all low = (len, (λ p. let a = all p in let a0 = a.0 in let a1 = a.1 in record { locked = omega arith; migrated = omega arith }), λ p h. low p (omega arith))

-- ---- the end: what a seat finished has its migrate bit
pub closes : (count granules : ℕ) (s : St) (id : ℕ) (v : View) → Tracks count granules s → get_elem? s.views id ≡ some v → (p : ℕ) → 0 < times p v.finished → (p < granules) × (migrate_in (get_or s.words (p / 32) 0) p ≡ 1)
closes count granules s id v r at p has =
    let b = total-at (λ v. times p v.finished) s.views id v at in
    let some_there : 0 < finishers p s.views = omega arith in
    (r.2 p (omega arith), (done_numbers (r.1 p) (bit_at-lt (get_or s.words (p / 32) 0) (lock_place p)) some_there).1)

pub four : (l m h f : ℕ) → Orderly l m h f → l < 2 → AreFour l m h f
four l m h f o lt = let a = o.locked in let b = o.migrated in
    record { migrated_is_locked = λ e. omega arith; held_has_the_lock_alone = λ e. (omega arith, omega arith); finished_is_migrated = λ e. omega arith; stands_once = omega arith }
