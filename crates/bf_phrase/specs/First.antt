-- FIRST: the words with which a rule begins.
use Rattle.std.specs.Prelude.{Bool, true, false, ◌||◌, List, [], ◌∷◌, ◌≡◌, Option, Some, None}
use Rattle.bf_lex.specs.declared.sign.Sign.TheVariants.{OpeningParenthesis}
use Rattle.bf_phrase.specs.Words.{Word, Keyword, Name, Number, Text, Minus, Sign}
use Rattle.bf_lex.specs.declared.keyword.Keyword.TheVariants.{Count, Sum, Min, Max}
use Rattle.bf_lex.specs.declared.keyword.Keyword.{Keyword as KeywordCase}
use Rattle.bf_phrase.specs.declared.cursor.Cursor.{Cursor}
use Rattle.bf_phrase.specs.Cursors.{words}

-- words that begin with one that passes a test
abbrev pub begins : (Word → Bool) → List Word → Bool
begins test [] = false
begins test (w ∷ ws) = test w

-- a literal begins
abbrev pub first_literal : Word → Bool
first_literal (Keyword keyword) = false
first_literal (Name name) = false
first_literal (Number n) = true
first_literal (Text text) = true
first_literal (Minus number_behind) = number_behind
first_literal (Sign sign) = false

abbrev pub is_name : Word → Bool
is_name (Keyword keyword) = false
is_name (Name name) = true
is_name (Number n) = false
is_name (Text text) = false
is_name (Minus number_behind) = false
is_name (Sign sign) = false

-- a minus with no number behind it
abbrev pub is_opposite : Word → Bool
is_opposite (Minus false) = true
is_opposite other = false

abbrev pub is_parenthesis : Word → Bool
is_parenthesis (Sign OpeningParenthesis) = true
is_parenthesis other = false

-- a literal begins, whatever stands behind its minus
abbrev pub first_constant : Word → Bool
first_constant (Keyword keyword) = false
first_constant (Name name) = false
first_constant (Number n) = true
first_constant (Text text) = true
first_constant (Minus number_behind) = true
first_constant (Sign sign) = false

abbrev pub first_expression : Word → Bool
first_expression (Keyword keyword) = false
first_expression (Name name) = true
first_expression (Number n) = true
first_expression (Text text) = true
first_expression (Minus number_behind) = true
first_expression (Sign OpeningParenthesis) = true
first_expression (Sign other) = false

abbrev pub first_aggregate : Word → Bool
first_aggregate (Keyword Count) = true
first_aggregate (Keyword Sum) = true
first_aggregate (Keyword Min) = true
first_aggregate (Keyword Max) = true
first_aggregate other = false

-- an item begins
abbrev pub first_item : Word → Bool
first_item word = first_expression word || first_aggregate word

abbrev pub is_keyword : Word → Bool
is_keyword (Keyword keyword) = true
is_keyword (Name name) = false
is_keyword (Number n) = false
is_keyword (Text text) = false
is_keyword (Minus number_behind) = false
is_keyword (Sign sign) = false

abbrev pub HasFirstKeyword : List Word → Option (KeywordCase × Cursor) → Type 0
HasFirstKeyword ws (Some found) = ws ≡ Keyword found.0 ∷ words found.1
HasFirstKeyword ws None = begins is_keyword ws ≡ false

-- the keyword at the front, and the words behind it
pub record IsFirstKeyword (ws : List Word) (found : Option (KeywordCase × Cursor)) : Type 0 where
  pub it : HasFirstKeyword ws found
