-- Two ways to split a list.
use Rattle.std.proofs.Common.{◌≡◌, ◌≤◌, List, [], ◌∷◌, ◌++◌, length, refl, sym, ap, arith, length-append}

-- the first front is the second and what stands between it and the first back
pub record Longer {A : Type 0} (front back start rest : List A) : Type 0 where
  pub between : List A
  pub front_is : front ≡ start ++ between
  pub rest_is : rest ≡ between ++ back

pub same_head : {A : Type 0} (a b : A) (xs ys : List A) → a ∷ xs ≡ b ∷ ys → a ≡ b
same_head a b xs ys e = cc

pub same_tail : {A : Type 0} (a b : A) (xs ys : List A) → a ∷ xs ≡ b ∷ ys → xs ≡ ys
same_tail a b xs ys e = cc

pub longer : {A : Type 0} (front back start rest : List A) → front ++ back ≡ start ++ rest
    → length back ≤ length rest → Longer front back start rest
longer front back [] rest e short = record { between = front; front_is = refl; rest_is = sym e }
longer [] back (s ∷ start) rest e short = absurd (omega (arith, length-append start rest, ap length e))
longer (f ∷ front) back (s ∷ start) rest e short =
    let head = same_head f s (front ++ back) (start ++ rest) e in
    let more = longer front back start rest (same_tail f s (front ++ back) (start ++ rest) e) short in
    record { between = more.between; front_is = λ i. head i ∷ more.front_is i; rest_is = more.rest_is }
