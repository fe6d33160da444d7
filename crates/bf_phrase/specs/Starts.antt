-- What stands at the front of an operand.
use Rattle.std.specs.Prelude.{◌≡◌, ℕ, ◌≤◌, true, false, List, ◌∷◌}
use Rattle.bf_base.specs.Limits.{int_end}
use Rattle.bf_base.specs.Texts.{IsText}
use Rattle.bf_lex.specs.Lexemes.{quoted}
use Rattle.bf_lex.specs.declared.sign.Sign.TheVariants.{OpeningParenthesis}
use Rattle.bf_phrase.specs.declared.cursor.Cursor.{Cursor}
use Rattle.bf_phrase.specs.declared.start.Start.{Start}
use Rattle.bf_phrase.specs.declared.start.Start.TheVariants as start
use Rattle.bf_phrase.specs.declared.start.Front.{Front}
use Rattle.bf_phrase.specs.declared.start.Front.TheVariants as front
use Rattle.bf_phrase.specs.Words.{Word, Number, Text, Minus, Sign}
use Rattle.bf_phrase.specs.Cursors.{words}
use Rattle.bf_phrase.specs.First.{begins, first_literal, is_opposite, is_parenthesis}
use Rattle.bf_phrase.specs.Expressions.{begins_with_number}

abbrev pub HasStart : List Word → Start → Type 0
HasStart ws start.Literal = begins first_literal ws ≡ true
HasStart ws (start.Opposite rest) = (ws ≡ Minus false ∷ words rest) × (begins_with_number (words rest) ≡ false)
HasStart ws (start.Parenthesis rest) = ws ≡ Sign OpeningParenthesis ∷ words rest
HasStart ws start.Other = (begins first_literal ws ≡ false) × (begins is_opposite ws ≡ false) × (begins is_parenthesis ws ≡ false)

-- which kind of operand begins, and the words behind the first word of a counted one
pub record IsStart (ws : List Word) (found : Start) : Type 0 where
  pub it : HasStart ws found

abbrev pub HasFront : List Word → Front → Type 0
HasFront ws (front.Number n rest) = (ws ≡ Number n ∷ words rest) × (n ≤ int_end)
HasFront ws (front.Negative n rest) = (ws ≡ Minus true ∷ Number n ∷ words rest) × (n ≤ int_end)
HasFront ws (front.Text bytes rest) = (inner : List ℕ) × IsText inner × (bytes.now ≡ quoted inner) × (ws ≡ Text inner ∷ words rest)
HasFront ws (front.Minus rest) = (ws ≡ Minus false ∷ words rest) × (begins_with_number (words rest) ≡ false)
HasFront ws front.Other = (begins first_literal ws ≡ false) × (begins is_opposite ws ≡ false)

-- the literal at the front, or a minus alone, and the words behind it
pub record IsFront (ws : List Word) (found : Front) : Type 0 where
  pub it : HasFront ws found

-- what holds of the place behind
abbrev pub BehindStart : (Cursor → Type 0) → Start → Type 0
BehindStart P start.Literal = Unit {0}
BehindStart P (start.Opposite rest) = P rest
BehindStart P (start.Parenthesis rest) = P rest
BehindStart P start.Other = Unit {0}

abbrev pub BehindFront : (Cursor → Type 0) → Front → Type 0
BehindFront P (front.Number n rest) = P rest
BehindFront P (front.Negative n rest) = P rest
BehindFront P (front.Minus rest) = P rest
BehindFront P (front.Text bytes rest) = P rest
BehindFront P front.Other = Unit {0}
