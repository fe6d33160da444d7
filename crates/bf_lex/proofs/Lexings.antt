-- Reading token after token.
use Rattle.std.proofs.Common.{ℕ, List, [], ◌∷◌, ◌++◌, refl, subst}
use Rattle.bf_lex.specs.declared.token.Token.{Token}
use Rattle.bf_lex.specs.Lexing.{Front, IsNext}

-- the tokens at the front, and the next
pub front_push : (at : ℕ) (text : List ℕ) (ts : List Token) (place : ℕ) (rest : List ℕ) (t : Token) (behind : List ℕ)
    → Front at text ts place rest → IsNext place rest t behind → Front at text (ts ++ t ∷ []) t.end behind
front_push at text [] place rest t behind f n =
    let moved : IsNext at rest t behind = subst (λ (p : ℕ). IsNext p rest t behind) f.0 n in
    (behind, subst (λ (bs : List ℕ). IsNext at bs t behind) f.1 moved, (refl, refl))
front_push at text (u ∷ us) place rest t behind f n = (f.0, f.1, front_push u.end f.0 us place rest t behind f.2 n)
