-- Writing the parts of a list one after the other, as a loop does.
use Rattle.std.proofs.Common.{◌≡◌, ℕ, ◌+◌, ◌<◌, List, ◌∷◌, [], ◌++◌, length, get_or, take, sym, ap, ◌∙◌, append_assoc}
use Rattle.std.specs.List.{flat_map}
use Rattle.std.proofs.lemmas.List.{flat_map_more, take_more}
use Rattle.bf_wire.specs.Taking.{KeepsFront}

-- what was the front before two writes is so behind a third that failed
pub keeps_front : (old one two mid new : List ℕ) → mid ≡ (old ++ one) ++ two → KeepsFront mid new → KeepsFront old new
keeps_front old one two mid new written kept =
    (one ++ (two ++ kept.0), kept.1 ∙ ap (λ (front : List ℕ). front ++ kept.0) written ∙ append_assoc (old ++ one) two kept.0 ∙ append_assoc old one (two ++ kept.0))

-- one part more
pub written_more : {A : Type 0} (part : A → List ℕ) (old : List ℕ) (xs : List A) (i : ℕ) (x : A) (mid new : List ℕ) → i < length xs → x ≡ get_or xs i x
    → mid ≡ old ++ flat_map part (take i xs) → new ≡ mid ++ part x → new ≡ old ++ flat_map part (take (i + 1) xs)
written_more part old xs i x mid new within is so_far more =
    let one_more : take i xs ++ x ∷ [] ≡ take (i + 1) xs = ap (λ y. take i xs ++ y ∷ []) is ∙ sym (take_more xs i x within) in
    more ∙ ap (λ (front : List ℕ). front ++ part x) so_far ∙ flat_map_more part old (take i xs) x ∙ ap (λ ys. old ++ flat_map part ys) one_more
