-- The words of the signs, by their numbers.
use Rattle.std.proofs.Common.{◌≡◌, Some, List, [], ◌∷◌, codes, refl, sym, subst}
use Rattle.bf_tables.specs.Cases.{Case, word_at}
use Rattle.bf_lex.specs.declared.sign.Sign.{Sign}
use Rattle.bf_lex.specs.declared.sign.Sign.TheVariants as sign
use Rattle.bf_lex.specs.Words.{sign_number, sign_word}
use Rattle.bf_lex.proofs.sign.Sign.cases.Goals as goal

abbrev words : List Case
words =
    (0, codes "(") ∷ (1, codes ")") ∷ (2, codes ",") ∷ (3, codes ";") ∷ (4, codes ".") ∷ (5, codes "*") ∷ (6, codes "+") ∷ (7, codes "-") ∷
    (8, codes "=") ∷ (9, codes "<>") ∷ (10, codes "<") ∷ (11, codes "<=") ∷ (12, codes ">") ∷ (13, codes ">=") ∷ (14, codes "||") ∷ []

word_of_number : (s : Sign) → word_at words (sign_number s) ≡ Some (sign_word s)
word_of_number sign.OpeningParenthesis = refl
word_of_number sign.ClosingParenthesis = refl
word_of_number sign.Comma = refl
word_of_number sign.Semicolon = refl
word_of_number sign.Point = refl
word_of_number sign.Star = refl
word_of_number sign.Plus = refl
word_of_number sign.Minus = refl
word_of_number sign.Equal = refl
word_of_number sign.Unequal = refl
word_of_number sign.Less = refl
word_of_number sign.LessEqual = refl
word_of_number sign.Greater = refl
word_of_number sign.GreaterEqual = refl
word_of_number sign.Bars = refl

pub returns : goal.returns
returns c = λ s.
    let made : c.of_cases.result ≡ Some words = c.of_cases.ensures in
    let same : c.unwrap.result ≡ words = cc in
    subst (λ cases. word_at cases (sign_number s) ≡ Some (sign_word s)) (sym same) (word_of_number s)
