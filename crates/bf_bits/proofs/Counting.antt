-- How often a position stands in lists, and in all views together.
use Rattle.std.proofs.Common.{◌≡◌, ◌≢◌, ℕ, zero, suc, ◌+◌, ◌/◌, ◌<◌, ◌≤◌, Bool, true, false, eqb, List, [], take, ◌∷◌, ◌++◌, set, sym, refl, ap, ◌∙◌, arith, eq-eqb, ne_eqb, subst}
use Rattle.std.specs.Prelude.{if◌then◌else◌, All}
use Rattle.std.proofs.lemmas.List.Elements.{All-head, All-tail}
use mathlib.Core.Logic.{dite}
use mathlib.Core.Option.{some, some-injective, some-ne-none}
use native.Mathlib.Decide.{ℕ_discrete}
use lib.ListN.{get_elem?}
use Rattle.bf_bits.specs.declared.rule.View.{View}
use Rattle.bf_bits.specs.Positions.{times, without, IsWithin}
use Rattle.bf_bits.specs.declared.answer.Look.{Look}
use Rattle.bf_bits.specs.declared.answer.Look.TheVariants.{Free, Held, Done}
use Rattle.bf_bits.specs.Tracker.{total}
use Rattle.bf_bits.specs.Steps.{held_after}

pub times-here : (p : ℕ) (xs : List ℕ) → times p (p ∷ xs) ≡ 1 + times p xs
times-here p xs = ap (λ (b : Bool). (if b then 1 else 0) + times p xs) (eq-eqb p p refl)

pub times-other : (p q : ℕ) (xs : List ℕ) → p ≢ q → times p (q ∷ xs) ≡ times p xs
times-other p q xs ne = ap (λ (b : Bool). (if b then 1 else 0) + times p xs) (ne_eqb p q ne) ∙ omega arith

pub times-append : (p : ℕ) (xs ys : List ℕ) → times p (xs ++ ys) ≡ times p xs + times p ys
times-append p [] ys = omega arith
times-append p (x ∷ xs) ys = let r = times-append p xs ys in omega arith

pub times-without : (q : ℕ) (xs : List ℕ) → 0 < times q xs → times q (without q xs) + 1 ≡ times q xs
times-without q [] h = absurd (omega arith)
times-without q (x ∷ xs) h = dite (ℕ_discrete q x)
    (λ e. let is : eqb q x ≡ true = eq-eqb q x e in rw is (omega arith))
    (λ ne. let is : eqb q x ≡ false = ne_eqb q x ne in
    let h' : 0 < times q xs = let o = times-other q x xs ne in omega arith in
    let r = times-without q xs h' in rw (is, is) (omega arith))

pub times-without_other : (p q : ℕ) (xs : List ℕ) → p ≢ q → times p (without q xs) ≡ times p xs
times-without_other p q [] ne = refl
times-without_other p q (x ∷ xs) ne = dite (ℕ_discrete q x)
    (λ e. let is : eqb q x ≡ true = eq-eqb q x e in rw is (sym (times-other p x xs (λ f. ne (f ∙ sym e)))))
    (λ nq. let is : eqb q x ≡ false = ne_eqb q x nq in rw is (ap (λ (n : ℕ). (if eqb p x then 1 else 0) + n) (times-without_other p q xs ne)))

pub total-set : (f : View → ℕ) (l : List View) (i : ℕ) (v w : View) → get_elem? l i ≡ some v → total f (set l i w) + f v ≡ total f l + f w
total-set f [] i v w e = absurd (some-ne-none v (sym e))
total-set f (x ∷ xs) zero v w e = let is : f x ≡ f v = ap f (some-injective x v e) in omega arith
total-set f (x ∷ xs) (suc i) v w e = let r = total-set f xs i v w e in omega arith

pub total-append : (f : View → ℕ) (l m : List View) → total f (l ++ m) ≡ total f l + total f m
total-append f [] m = omega arith
total-append f (x ∷ xs) m = let r = total-append f xs m in omega arith

-- a view counts for no more than all
pub total-at : (f : View → ℕ) (l : List View) (i : ℕ) (v : View) → get_elem? l i ≡ some v → f v ≤ total f l
total-at f [] i v e = absurd (some-ne-none v (sym e))
total-at f (x ∷ xs) zero v e = let is : f x ≡ f v = ap f (some-injective x v e) in omega arith
total-at f (x ∷ xs) (suc i) v e = let r = total-at f xs i v e in omega arith

pub within-more : (count q : ℕ) (xs : List ℕ) → q / 32 < count → IsWithin count xs → IsWithin count (q ∷ xs)
within-more count q xs h all p has = dite (ℕ_discrete p q)
    (λ e. subst (λ (x : ℕ). x / 32 < count) (sym e) h)
    (λ ne. all p (let o = times-other p q xs ne in omega arith))

pub within-claimed : (words q : ℕ) (state : Look) (xs : List ℕ) → q / 32 < words → IsWithin words xs → IsWithin words (held_after q state xs)
within-claimed words q Free xs h all = within-more words q xs h all
within-claimed words q Held xs h all = all
within-claimed words q Done xs h all = all

pub within-fewer : (count q : ℕ) (xs : List ℕ) → IsWithin count xs → IsWithin count (without q xs)
within-fewer count q xs all p has = dite (ℕ_discrete p q)
    (λ e. all p (some_left p q xs e has))
    (λ ne. all p (let o = times-without_other p q xs ne in omega arith))
  where
    fewer : (p : ℕ) (xs : List ℕ) → times p (without p xs) ≤ times p xs
    fewer p [] = omega arith
    fewer p (x ∷ xs) = dite (ℕ_discrete p x)
        (λ e. let is : eqb p x ≡ true = eq-eqb p x e in rw is (omega arith))
        (λ ne. let is : eqb p x ≡ false = ne_eqb p x ne in let r = fewer p xs in rw (is, is) (omega arith))

    some_left : (p q : ℕ) (xs : List ℕ) → p ≡ q → 0 < times p (without q xs) → 0 < times p xs
    some_left p q xs e h = let f = fewer p xs in let g : times p (without q xs) ≡ times p (without p xs) = ap (λ (x : ℕ). times p (without x xs)) (sym e) in omega arith

pub within-both : (count : ℕ) (xs ys : List ℕ) → IsWithin count xs → IsWithin count ys → IsWithin count (xs ++ ys)
within-both count xs ys a b p has = let t = times-append p xs ys in dite (ℕ_discrete (times p xs) 0) (λ z. b p (omega arith)) (λ n. a p (omega (arith, n)))

pub times-take : (q : ℕ) (xs : List ℕ) (k : ℕ) → times q (take k xs) ≤ times q xs
times-take q xs zero = omega arith
times-take q [] (suc k) = omega arith
times-take q (x ∷ xs) (suc k) = let r = times-take q xs k in omega arith

-- what holds of each element holds of each number that stands there
pub all-times : (P : ℕ → Type 0) (xs : List ℕ) → All P xs → (p : ℕ) → 0 < times p xs → P p
all-times P [] all p h = absurd (omega arith)
all-times P (x ∷ xs) all p h = dite (ℕ_discrete p x)
    (λ e. subst P (sym e) (All-head P x xs all))
    (λ ne. all-times P xs (All-tail P x xs all) p (let o = times-other p x xs ne in omega arith))
