-- What joins the products of a sum.
use Rattle.std.specs.Prelude.{◌≡◌, false, List, ◌∷◌, Option, Some, None}
use Rattle.bf_lex.specs.declared.sign.Sign.TheVariants.{Plus, Bars}
use Rattle.bf_phrase.specs.declared.cursor.Cursor.{Cursor}
use Rattle.bf_phrase.specs.declared.sum_operator.SumOperator.{SumOperator}
use Rattle.bf_phrase.specs.declared.sum_operator.SumOperator.TheVariants as operator
use Rattle.bf_phrase.specs.Words.{Word, Minus, Sign}
use Rattle.bf_phrase.specs.Cursors.{words}
use Rattle.bf_phrase.specs.First.{begins}
use Rattle.bf_phrase.specs.Follow.{is_sum_operator}
use Rattle.bf_phrase.specs.Expressions.{begins_with_number}

-- the word of an operator before these words
abbrev pub word_before : SumOperator → List Word → Word
word_before operator.Plus rest = Sign Plus
word_before operator.Difference rest = Minus (begins_with_number rest)
word_before operator.Concatenation rest = Sign Bars

abbrev pub HasNextOperator : List Word → Option (SumOperator × Cursor) → Type 0
HasNextOperator ws (Some found) = ws ≡ word_before found.0 (words found.1) ∷ words found.1
HasNextOperator ws None = begins is_sum_operator ws ≡ false

pub record IsNextOperator (ws : List Word) (found : Option (SumOperator × Cursor)) : Type 0 where
  pub it : HasNextOperator ws found
