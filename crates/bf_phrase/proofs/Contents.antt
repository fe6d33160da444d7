-- The content of a text token.
use Rattle.std.proofs.Common.{◌≡◌, ◌≢◌, ℕ, ◌-◌, List, [], ◌∷◌, ◌++◌, length, take, flat_map, refl, ap, ◌∙◌, inl, inr, arith, length-append, eqb, false}
use Rattle.std.specs.Prelude.{slice_range}
use Rattle.std.proofs.lemmas.Bool.{cases_eq, ne_eqb}
use Rattle.std.proofs.Math.Seq.{take-append_seam}
use Rattle.bf_lex.specs.Bytes.{quote}
use Rattle.bf_lex.specs.Lexemes.{doubled, quoted}
use Rattle.bf_lex.proofs.Quotes.{plain}
use Rattle.bf_phrase.specs.Words.{undoubled, content_of}

undoubled_plain : (b : ℕ) (bs : List ℕ) → b ≢ 39 → undoubled (b ∷ bs) ≡ b ∷ undoubled bs
undoubled_plain b [] other = refl
undoubled_plain b (c ∷ bs) other = let e : eqb b 39 ≡ false = ne_eqb b 39 other in rw e refl

undoubled-doubled : (inner : List ℕ) → undoubled (flat_map doubled inner) ≡ inner
undoubled-doubled [] = refl
undoubled-doubled (b ∷ bs) = elim (cases_eq b 39) [
  | inl at_quote ↦ rw at_quote (ap (λ (z : List ℕ). 39 ∷ z) (undoubled-doubled bs))
  | inr other ↦ rw (plain b other) (undoubled_plain b (flat_map doubled bs) other ∙ ap (λ (z : List ℕ). b ∷ z) (undoubled-doubled bs))
]

between_quotes : (front : List ℕ) → slice_range (quote ∷ (front ++ quote ∷ [])) 1 (length (quote ∷ (front ++ quote ∷ [])) - 1) ≡ front
between_quotes front =
    let size : length (quote ∷ (front ++ quote ∷ [])) - 1 - 1 ≡ length front = omega (arith, length-append front (quote ∷ [])) in
    ap (λ (n : ℕ). take n (front ++ quote ∷ [])) size ∙ take-append_seam front (quote ∷ [])

pub content-quoted : (bytes inner : List ℕ) → bytes ≡ quoted inner → content_of bytes ≡ inner
content-quoted bytes inner e = ap content_of e ∙ ap undoubled (between_quotes (flat_map doubled inner)) ∙ undoubled-doubled inner
