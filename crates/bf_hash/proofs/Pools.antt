-- Free numbers in a heap: the top is the least, and a number that is taken has room among the free.
use Rattle.std.proofs.Common.{◌≡◌, ◌≢◌, ℕ, zero, suc, ◌+◌, ◌-◌, ◌<◌, ◌≤◌, Bool, List, [], ◌∷◌, length, refl, sym, ap, ◌∙◌, subst, arith, eq-eqb, ne_eqb}
use Rattle.std.specs.Prelude.{◌==◌, OnOk, Result, Ok, if◌then◌else◌, nat_lt}
use Rattle.std.specs.List.{sum_by}
use Rattle.std.specs.List.Sorted.{IsPermutation}
use Rattle.std.specs.Ordering.{nat_cmp}
use Rattle.std.specs.BinaryHeap.{IsHeap, IsUpperBound, KeepsHeap, PopsGreatest}
use Rattle.std.specs.declared.cmp.Ordering.{Ordering}
use Rattle.std.specs.declared.cmp.Reverse.{Reverse}
use Rattle.std.proofs.lemmas.Bool.Decides.{nat_tests}
use Rattle.std.proofs.lemmas.List.Sums.{sum_by-cons}
use Rattle.std.proofs.lemmas.List.Sorted.{sum_by_pushed, sum_by_popped}
use Rattle.std.proofs.lemmas.Map.Keys.{ge_from_not_lt}
use mathlib.Core.Logic.{dite}
use native.Mathlib.Decide.{ℕ_discrete}
use Rattle.bf_hash.specs.Tickets.{numbers_of, times, IsTaken, IsLeastFree, TakesOne, GivesOne, IsPool}

abbrev pub order : Reverse ℕ → Reverse ℕ → Ordering
order x y = nat_cmp y.0 x.0

-- ---- how often a number stands in a list
times-here : (n : ℕ) (xs : List ℕ) → times n (n ∷ xs) ≡ 1 + times n xs
times-here n xs = ap (λ (b : Bool). (if b then 1 else 0) + times n xs) (eq-eqb n n refl)

times-other : (n x : ℕ) (xs : List ℕ) → n ≢ x → times n (x ∷ xs) ≡ times n xs
times-other n x xs ne = ap (λ (b : Bool). (if b then 1 else 0) + times n xs) (ne_eqb n x ne) ∙ omega arith

times-sum : (n : ℕ) (xs : List (Reverse ℕ)) → times n (numbers_of xs) ≡ sum_by (λ x. if n == x.0 then 1 else 0) xs
times-sum n [] = refl
times-sum n (x ∷ xs) = ap (λ (k : ℕ). (if n == x.0 then 1 else 0) + k) (times-sum n xs) ∙ sym (sum_by-cons (λ x. if n == x.0 then 1 else 0) x xs)

-- a list that has one number more
times-pushed : (n : ℕ) (x : Reverse ℕ) (xs ys : List (Reverse ℕ)) → IsPermutation (x ∷ xs) ys → times n (numbers_of ys) ≡ times n (x.0 ∷ numbers_of xs)
times-pushed n x xs ys p = times-sum n ys ∙ (sum_by_pushed (λ x. if n == x.0 then 1 else 0) x xs ys p ∙ ap (λ (k : ℕ). (if n == x.0 then 1 else 0) + k) (sym (times-sum n xs)))

times-popped : (n : ℕ) (x : Reverse ℕ) (xs ys : List (Reverse ℕ)) → IsPermutation xs (x ∷ ys) → times n (numbers_of xs) ≡ times n (x.0 ∷ numbers_of ys)
times-popped n x xs ys p =
    let s = sum_by_popped (λ x. if n == x.0 then 1 else 0) x xs ys p in
    let a = times-sum n xs in
    let b = times-sum n ys in
    omega arith

-- ---- no more distinct numbers lie below a bound than there are
count_below : ℕ → List ℕ → ℕ
count_below n [] = 0
count_below n (x ∷ xs) = (if nat_lt x n then 1 else 0) + count_below n xs

lt-suc : (n x : ℕ) → (if nat_lt x (n + 1) then 1 else 0) ≡ (if nat_lt x n then 1 else 0) + (if n == x then 1 else 0)
lt-suc n x = grind (arith, nat_tests)

lt-zero : (x : ℕ) → ◌≡◌ {A = ℕ} (if nat_lt x 0 then 1 else 0) 0
lt-zero x = grind (arith, nat_tests)

lt-one : (n x : ℕ) → x < n → ◌≡◌ {A = ℕ} (if nat_lt x n then 1 else 0) 1
lt-one n x lt = grind (arith, nat_tests)

below-suc : (n : ℕ) (xs : List ℕ) → count_below (n + 1) xs ≡ count_below n xs + times n xs
unfolding count_below
below-suc n [] = refl
below-suc n (x ∷ xs) = let a = lt-suc n x in let b = below-suc n xs in omega arith

below-zero : (xs : List ℕ) → count_below 0 xs ≡ 0
unfolding count_below
below-zero [] = refl
below-zero (x ∷ xs) = let a = lt-zero x in let b = below-zero xs in omega arith

below-all : (n : ℕ) (xs : List ℕ) → ((p : ℕ) → 0 < times p xs → p < n) → count_below n xs ≡ length xs
unfolding count_below
below-all n [] all = refl
below-all n (x ∷ xs) all =
    let h = times-here x xs in
    let low : x < n = all x (omega arith) in
    let a = lt-one n x low in
    let b = below-all n xs (λ p some. all p (omega arith)) in
    omega arith

module _ (xs : List ℕ) (once : (p : ℕ) → times p xs ≤ 1) (no_zero : times 0 xs ≡ 0) where
  few : (n : ℕ) → count_below (n + 1) xs ≤ n
  few zero = let a = below-suc 0 xs in let b = below-zero xs in omega arith
  few (suc n) =
      let is : suc n ≡ n + 1 = omega arith in
      let a = below-suc (n + 1) xs in
      let b = few n in
      let c = once (n + 1) in
      subst (λ (m : ℕ). count_below (m + 1) xs ≤ m) (sym is) (omega arith)

  fewer : (t : ℕ) → 1 ≤ t → times t xs ≡ 0 → (n : ℕ) → t < n + 1 → count_below (n + 1) xs + 1 ≤ n
  fewer t one_up none zero lt = absurd (omega arith)
  fewer t one_up none (suc n) lt =
      let is : suc n ≡ n + 1 = omega arith in
      let a = below-suc (n + 1) xs in
      let b = few n in
      let c = once (n + 1) in
      let here : count_below (n + 1 + 1) xs + 1 ≤ n + 1 = dite (ℕ_discrete t (n + 1))
      (λ e. let z : times (n + 1) xs ≡ 0 = subst (λ (k : ℕ). times k xs ≡ 0) e none in omega arith)
      (λ ne. let d = fewer t one_up none n (omega (arith, ne)) in omega arith) in
      subst (λ (m : ℕ). count_below (m + 1) xs + 1 ≤ m) (sym is) here

length-numbers : (xs : List (Reverse ℕ)) → length (numbers_of xs) ≡ length xs
length-numbers [] = refl
length-numbers (x ∷ xs) = let a = length-numbers xs in omega arith

-- the free numbers leave room for one that is taken
pub has_room : (next room : ℕ) (free : List (Reverse ℕ)) (ticket : ℕ) → IsPool next free room → IsTaken (record { next = next; free = numbers_of free }) ticket → length free < room
has_room next room free ticket pool taken =
    let low = taken.below_next in
    let up = taken.from_one in
    let is : next - 1 + 1 ≡ next = omega arith in
    let no_zero : times 0 (numbers_of free) ≡ 0 = dite (ℕ_discrete (times 0 (numbers_of free)) 0) (λ z. z) (λ ne. absurd (let w = (pool.within 0 (omega (arith, ne))).0 in omega arith)) in
    let f = fewer (numbers_of free) pool.once no_zero ticket up taken.not_free (next - 1) (omega arith) in
    let g : count_below next (numbers_of free) + 1 ≤ next - 1 = subst (λ (n : ℕ). count_below n (numbers_of free) + 1 ≤ next - 1) is f in
    let a = below-all next (numbers_of free) (λ p some. (pool.within p some).1) in
    let l = length-numbers free in
    let s = pool.spacious in
    omega arith

-- ---- a ticket that comes back
pub given_pool : (next room after : ℕ) (old new : List (Reverse ℕ)) (x : Reverse ℕ) → IsPool next old room → room ≤ after → IsTaken (record { next = next; free = numbers_of old }) x.0 → IsPermutation (x ∷ old) new → KeepsHeap order old new → IsPool next new after
given_pool next room after old new x pool more taken perm keeps = record {
  ordered = keeps pool.ordered;
  some = pool.some;
  spacious = (let s = pool.spacious in omega arith);
  once = λ n. let t = times-pushed n x old new perm in dite (ℕ_discrete n x.0)
      (λ e. let z : times n (numbers_of old) ≡ 0 = subst (λ (k : ℕ). times k (numbers_of old) ≡ 0) (sym e) taken.not_free in
      let h : times n (x.0 ∷ numbers_of old) ≡ times n (n ∷ numbers_of old) = ap (λ (k : ℕ). times n (k ∷ numbers_of old)) (sym e) in
      let k = times-here n (numbers_of old) in omega arith)
      (λ ne. let k = times-other n x.0 (numbers_of old) ne in let o = pool.once n in omega arith);
  within = λ n some. let t = times-pushed n x old new perm in dite (ℕ_discrete n x.0)
      (λ e. let a = taken.from_one in let b = taken.below_next in (omega arith, omega arith))
      (λ ne. let k = times-other n x.0 (numbers_of old) ne in pool.within n (omega arith));
}

pub gives_one : (next : ℕ) (old new : List (Reverse ℕ)) (x : Reverse ℕ) → IsTaken (record { next = next; free = numbers_of old }) x.0 → IsPermutation (x ∷ old) new → GivesOne (record { next = next; free = numbers_of old }) (record { next = next; free = numbers_of new }) x.0
gives_one next old new x taken perm = record {
  this = λ is. let t = times-pushed x.0 x old new perm in let h = times-here x.0 (numbers_of old) in let z = is.not_free in absurd (omega arith);
  kept = λ other is. dite (ℕ_discrete other x.0)
      (λ e. subst (λ (n : ℕ). IsTaken (record { next = next; free = numbers_of old }) n) (sym e) taken)
      (λ ne. let t = times-pushed other x old new perm in let k = times-other other x.0 (numbers_of old) ne in let z = is.not_free in
      record { from_one = is.from_one; below_next = is.below_next; not_free = omega arith });
  no_other = λ other ne is. let t = times-pushed other x old new perm in let k = times-other other x.0 (numbers_of old) ne in let z = is.not_free in
      record { from_one = is.from_one; below_next = is.below_next; not_free = omega arith };
}

-- ---- the least free ticket is taken
pub taken_pool : (next room : ℕ) (old new : List (Reverse ℕ)) (x : Reverse ℕ) → IsPool next old room → IsPermutation old (x ∷ new) → PopsGreatest order old x new → IsPool next new room
taken_pool next room old new x pool perm pops =
    let fewer_there : (n : ℕ) → times n (numbers_of new) ≤ times n (numbers_of old) = λ n. let t = times-popped n x old new perm in omega arith in
    record {
      ordered = (pops pool.ordered).0;
      some = pool.some;
      spacious = pool.spacious;
      once = λ n. let a = fewer_there n in let o = pool.once n in omega arith;
      within = λ n some. let a = fewer_there n in pool.within n (omega arith);
    }

none_below : (x : Reverse ℕ) (ys : List (Reverse ℕ)) (n : ℕ) → IsUpperBound order x ys → n < x.0 → times n (numbers_of ys) ≡ 0
none_below x [] n all lt = refl
none_below x (y ∷ ys) n all lt =
    let up : x.0 ≤ y.0 = ge_from_not_lt y.0 x.0 all.0 in
    times-other n y.0 (numbers_of ys) (λ e. absurd (omega arith)) ∙ none_below x ys n all.1 lt

pub least_taken : (next room : ℕ) (old new : List (Reverse ℕ)) (x : Reverse ℕ) → IsPool next old room → IsPermutation old (x ∷ new) → (IsHeap order old → IsUpperBound order x new) → IsLeastFree (record { next = next; free = numbers_of old }) x.0
least_taken next room old new x pool perm below =
    let t = times-popped x.0 x old new perm in
    let h = times-here x.0 (numbers_of new) in
    let w = pool.within x.0 (omega arith) in
    record {
      from_one = w.0;
      free = λ is. let z = is.not_free in absurd (omega arith);
      least = λ other up lt. record {
        from_one = up;
        below_next = (let b = w.1 in omega arith);
        not_free = times-popped other x old new perm ∙ (times-other other x.0 (numbers_of new) (λ e. absurd (omega arith)) ∙ none_below x new other (below pool.ordered) lt);
      };
    }

pub takes_one : (next room : ℕ) (old new : List (Reverse ℕ)) (x : Reverse ℕ) → IsPool next old room → IsPermutation old (x ∷ new) → TakesOne (record { next = next; free = numbers_of old }) (record { next = next; free = numbers_of new }) x.0
takes_one next room old new x pool perm =
    let t = times-popped x.0 x old new perm in
    let h = times-here x.0 (numbers_of new) in
    let w = pool.within x.0 (omega arith) in
    let o = pool.once x.0 in
    record {
      this = record { from_one = w.0; below_next = w.1; not_free = omega arith };
      kept = λ other is. let z = is.not_free in let k = times-popped other x old new perm in record { from_one = is.from_one; below_next = is.below_next; not_free = omega arith };
      no_other = λ other ne is. let z = is.not_free in let k = times-popped other x old new perm in let j = times-other other x.0 (numbers_of new) ne in record { from_one = is.from_one; below_next = is.below_next; not_free = omega arith };
    }

-- what holds after a success, once it is known to be one
pub on_ok : {A E : Type 0} (P : Type 0) (r : Result A E) (x : A) → r ≡ Ok x → OnOk r P → P
on_ok P r x e h = subst (λ r. OnOk r P) e h
