-- The positions that a pass over the words gathers.
use Rattle.std.proofs.Common.{◌≡◌, get_or, ℕ, zero, suc, ◌+◌, ◌/◌, ◌<◌, ◌≤◌, List, [], ◌∷◌, ◌++◌, sym, ap, ◌∙◌, arith, subst}
use mathlib.Core.Logic.{dite}
use mathlib.Core.Option.{some, some-injective, some-ne-none}
use native.Mathlib.Decide.{ℕ_discrete}
use lib.ListN.{get_elem?}
use Rattle.std.specs.List.Sorted.{IsStrictlyIncreasing}
use Rattle.bf_bits.specs.Positions.{Has, times}
use Rattle.bf_bits.specs.Words.{migrate_in}
use Rattle.bf_bits.proofs.Counting.{times-here, times-other, times-append}

-- each is above all before it, and all lie from m on and below n
abbrev pub RisesBetween : ℕ → ℕ → List ℕ → Type 0
RisesBetween m n [] = m ≤ n
RisesBetween m n (x ∷ xs) = (m ≤ x) × RisesBetween (x + 1) n xs

pub rises-skip : (m n : ℕ) (xs : List ℕ) → RisesBetween m n xs → RisesBetween m (n + 1) xs
rises-skip m n [] h = omega arith
rises-skip m n (x ∷ xs) h = (h.0, rises-skip (x + 1) n xs h.1)

pub rises-more : (m n : ℕ) (xs : List ℕ) → RisesBetween m n xs → RisesBetween m (n + 1) (xs ++ n ∷ [])
rises-more m n [] h = (h, omega arith)
rises-more m n (x ∷ xs) h = (h.0, rises-more (x + 1) n xs h.1)

pub rises-strictly : (m n : ℕ) (xs : List ℕ) → RisesBetween m n xs → IsStrictlyIncreasing xs
rises-strictly m n [] h k lt = absurd (omega arith)
rises-strictly m n (x ∷ []) h k lt = absurd (omega arith)
rises-strictly m n (x ∷ y ∷ xs) h zero lt = let a = h.1.0 in omega arith
rises-strictly m n (x ∷ y ∷ xs) h (suc k) lt =
    let e : suc (k + 1) ≡ suc k + 1 = omega arith in
    subst (λ (i : ℕ). get_or (x ∷ y ∷ xs) (suc k) 0 < get_or (x ∷ y ∷ xs) i 0) e (rises-strictly (x + 1) n (y ∷ xs) h.1 k (omega arith))

-- the word at i is what was read there
read_at : (l : List ℕ) (i a : ℕ) → get_elem? l i ≡ some a → get_or l i 0 ≡ a
read_at [] i a e = absurd (some-ne-none a (sym e))
read_at (x ∷ xs) zero a e = some-injective x a e
read_at (x ∷ xs) (suc i) a e = read_at xs i a e

abbrev pub IsDoneIn : List ℕ → ℕ → Type 0
IsDoneIn words p = migrate_in (get_or words (p / 32) 0) p ≡ 1

-- exactly the done positions below `at` were gathered
pub record AreGathered (words : List ℕ) (at : ℕ) (out : List ℕ) : Type 0 where
  pub only : (p : ℕ) → Has out p → (p < at) × IsDoneIn words p
  pub all : (p : ℕ) → p < at → IsDoneIn words p → Has out p

bit_here : (words : List ℕ) (at word : ℕ) → get_elem? words (at / 32) ≡ some word → migrate_in (get_or words (at / 32) 0) at ≡ migrate_in word at
bit_here words at word w = ap (λ (n : ℕ). migrate_in n at) (read_at words (at / 32) word w)

pub gathered_more : (words out out' : List ℕ) (at word : ℕ) → get_elem? words (at / 32) ≡ some word → migrate_in word at ≡ 1 → out' ≡ out ++ at ∷ [] → AreGathered words at out → AreGathered words (at + 1) out'
gathered_more words out out' at word w on is g =
    let one : IsDoneIn words at = bit_here words at word w ∙ on in
    let counted : (p : ℕ) → times p out' ≡ times p out + times p (at ∷ []) = λ p. ap (times p) is ∙ times-append p out (at ∷ []) in
    record {
      only = λ p h. dite (ℕ_discrete p at)
          (λ e. (omega (arith, e), subst (IsDoneIn words) (sym e) one))
          (λ ne. let o = times-other p at [] ne in let c = counted p in let b = g.only p (omega arith) in (omega (arith, b.0), b.1));
      all = λ p lt d. dite (ℕ_discrete p at)
          (λ e. let h = times-here p [] in let k : times p (at ∷ []) ≡ times p (p ∷ []) = ap (λ (x : ℕ). times p (x ∷ [])) (sym e) in let c = counted p in omega arith)
          (λ ne. let before = g.all p (omega (arith, ne)) d in let c = counted p in omega arith);
    }

pub gathered_same : (words out out' : List ℕ) (at word : ℕ) → get_elem? words (at / 32) ≡ some word → migrate_in word at ≡ 0 → out' ≡ out → AreGathered words at out → AreGathered words (at + 1) out'
gathered_same words out out' at word w off is g =
    let zero_here : migrate_in (get_or words (at / 32) 0) at ≡ 0 = bit_here words at word w ∙ off in
    record {
      only = λ p h. let b = g.only p (subst (λ (l : List ℕ). Has l p) is h) in (omega (arith, b.0), b.1);
      all = λ p lt d. dite (ℕ_discrete p at)
          (λ e. let k : migrate_in (get_or words (at / 32) 0) at ≡ 1 = subst (IsDoneIn words) e d in absurd (omega arith))
          (λ ne. subst (λ (l : List ℕ). Has l p) (sym is) (g.all p (omega (arith, ne)) d));
    }
