-- A push of another granule and a pop keep that the granules differ, and that each claim is of its granule.
use Rattle.std.proofs.Common.{ℕ, ◌<◌, ◌≤◌, inl, inr, List, [], ◌∷◌, ◌++◌, length, take, sym, ◌∙◌, ap, subst, arith, Some, length-append}
use Rattle.std.proofs.lemmas.List.{take-map, length-take, map-append}
use Rattle.bf_base.specs.declared.granule.Granule.{Granule}
use Rattle.bf_drive.specs.Claims.{IsOf}
use Rattle.bf_drive.specs.Lists.{Entry, IsSkip, IsWip, AreDifferent, Lacks, granules_in, most_granules}
use Rattle.bf_drive.proofs.Places.{slice_get-snoc, slice_get-take}

different-snoc : (xs : List Granule) (x : Granule) → AreDifferent xs → Lacks xs x → AreDifferent (xs ++ x ∷ [])
different-snoc xs x differ lacks i j g p q =
    elim (slice_get-snoc xs x i g p) [
      | inl a ↦ elim (slice_get-snoc xs x j g q) [ inl b ↦ differ i j g a b | inr b ↦ absurd (lacks i (a ∙ ap Some b.1)) ]
      | inr a ↦ elim (slice_get-snoc xs x j g q) [ inl b ↦ absurd (lacks j (b ∙ ap Some a.1)) | inr b ↦ a.0 ∙ sym b.0 ]
    ]

different-take : (n : ℕ) (xs : List Granule) → AreDifferent xs → AreDifferent (take n xs)
different-take n xs differ i j g p q = differ i j g (slice_get-take n xs i g p) (slice_get-take n xs j g q)

few-snoc : {T : Type 0} (xs : List T) (x : T) → length xs < most_granules → length (xs ++ x ∷ []) ≤ most_granules
few-snoc xs x few = omega (arith, length-append xs (x ∷ []))

pub skip-snoc : (xs : List Granule) (x : Granule) → IsSkip xs → length xs < most_granules → Lacks xs x → IsSkip (xs ++ x ∷ [])
skip-snoc xs x old few lacks = record { few = few-snoc xs x few; different = different-snoc xs x old.different lacks }

pub wip-snoc : (xs : List Entry) (x : Entry) → IsWip xs → length xs < most_granules → Lacks (granules_in xs) x.0 → IsOf x.0 x.1 → IsWip (xs ++ x ∷ [])
wip-snoc xs x old few lacks own = record {
  few = few-snoc xs x few;
  different = subst AreDifferent (sym (map-append (λ (e : Entry). e.0) xs (x ∷ []))) (different-snoc (granules_in xs) x.0 old.different lacks);
  theirs = λ i e p. elim (slice_get-snoc xs x i e p) [ inl a ↦ old.theirs i e a | inr a ↦ subst (λ (y : Entry). IsOf y.0 y.1) (sym a.1) own ];
}

pub wip-take : (n : ℕ) (xs : List Entry) → IsWip xs → IsWip (take n xs)
wip-take n xs old = record {
  few = omega (arith, old.few, length-take n xs);
  different = subst AreDifferent (take-map (λ (e : Entry). e.0) n xs) (different-take n (granules_in xs) old.different);
  theirs = λ i e p. old.theirs i e (slice_get-take n xs i e p);
}
