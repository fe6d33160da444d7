-- One piece after another.
use Rattle.std.proofs.Common.{◌≡◌, ℕ, ◌+◌, ◌-◌, List, ◌++◌, length, take, drop, append_assoc, Option, Some, None, ◌∙◌, ap, sym, subst}
use Rattle.std.proofs.lemmas.List.{take_rest}
use Rattle.std.proofs.Math.Seq.{take-add}
use Rattle.std.specs.Io.KnownBytes.{Appends}

-- two pieces in a row are one
pub appends_then : (old mid new : Option (List ℕ)) (xs ys : List ℕ) → Appends old mid xs → Appends mid new ys → Appends old new (xs ++ ys)
appends_then None mid new xs ys h k = tt
appends_then (Some a) None new xs ys h k = absurd h
appends_then (Some a) (Some b) None xs ys h k = absurd k
appends_then (Some a) (Some b) (Some c) xs ys h k = k ∙ ap (λ (z : List ℕ). z ++ ys) h ∙ append_assoc a xs ys

-- the next n bytes of a text from a place on
pub piece_then : (old mid new : Option (List ℕ)) (text : List ℕ) (at n : ℕ) → Appends old mid (take at text) → Appends mid new (take n (take (length text - at) (drop at text))) → Appends old new (take (at + n) text)
piece_then old mid new text at n h k =
    let parts : take (at + n) text ≡ take at text ++ take n (take (length text - at) (drop at text)) = take-add at n text ∙ ap (λ (z : List ℕ). take at text ++ take n z) (sym (take_rest text at)) in
    subst (λ (z : List ℕ). Appends old new z) (sym parts) (appends_then old mid new (take at text) (take n (take (length text - at) (drop at text))) h k)
