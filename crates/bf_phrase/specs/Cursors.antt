-- A place in tokens of a text, as the words that are left there.
use Rattle.std.specs.Prelude.{◌≡◌, ℕ, List, [], ◌∷◌, length, Option, Some, None}
use Rattle.bf_lex.specs.declared.token.Token.{Token}
use Rattle.bf_phrase.specs.declared.cursor.Cursor.{Cursor}
use Rattle.bf_phrase.specs.Words.{Word, words_of}
use Rattle.bf_phrase.specs.Tokens.{AreTokens}

-- the words that are left
abbrev pub words : Cursor → List Word
words c = words_of c.text.now c.tokens.now

-- how many are left
abbrev pub left : Cursor → ℕ
left c = length c.tokens.now

abbrev pub IsPlace : Cursor → Type 0
IsPlace c = AreTokens c.text.now c.tokens.now

-- the first token, and the place behind it
abbrev pub HasNext : Cursor → Option (Token × Cursor) → Type 0
HasNext c (Some next) = (next.1.text.now ≡ c.text.now) × (c.tokens.now ≡ next.0 ∷ next.1.tokens.now)
HasNext c None = c.tokens.now ≡ []

pub record IsNext (c : Cursor) (next : Option (Token × Cursor)) : Type 0 where
  pub it : HasNext c next
