-- Where as many granules are left as there were, all of them are.
use Rattle.std.proofs.Common.{◌≡◌, ◌≤◌, Bool, true, false, cond, List, [], ◌∷◌, filter, length, refl, ap, arith}
use Rattle.bf_base.specs.declared.granule.Granule.{Granule}

fewer : (test : Granule → Bool) (gs : List Granule) → length (filter test gs) ≤ length gs
fewer test [] = omega arith
fewer test (g ∷ gs) =
    let rest = fewer test gs in
    elim (test g) as (λ b. length (cond b (g ∷ filter test gs) (filter test gs)) ≤ length (g ∷ gs)) [
      | true ↦ omega (arith, rest)
      | false ↦ omega (arith, rest)
    ]

pub all_are_left : (test : Granule → Bool) (gs : List Granule) → length (filter test gs) ≡ length gs → filter test gs ≡ gs
all_are_left test [] same = refl
all_are_left test (g ∷ gs) same =
    let rest = fewer test gs in
    elim (test g) as (λ b. length (cond b (g ∷ filter test gs) (filter test gs)) ≡ length (g ∷ gs) → cond b (g ∷ filter test gs) (filter test gs) ≡ g ∷ gs) [
      | true ↦ λ all. ap (λ hs. g ∷ hs) (all_are_left test gs (omega (arith, all)))
      | false ↦ λ all. absurd (omega (arith, all, rest))
    ] same
