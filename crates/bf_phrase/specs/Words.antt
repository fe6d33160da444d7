-- WORDS: what the parser sees of a token.
use Rattle.std.specs.Prelude.{ℕ, ◌-◌, Bool, true, false, List, [], ◌∷◌, length, slice_range, if◌then◌else◌}
use Rattle.bf_base.specs.Names.{folded}
use Rattle.bf_lex.specs.declared.keyword.Keyword.{Keyword as KeywordCase}
use Rattle.bf_lex.specs.declared.sign.Sign.{Sign as SignCase}
use Rattle.bf_lex.specs.declared.sign.Sign.TheVariants as sign
use Rattle.bf_lex.specs.declared.token.Token.{Token}
use Rattle.bf_lex.specs.declared.token.TokenKind.{TokenKind}
use Rattle.bf_lex.specs.declared.token.TokenKind.TheVariants as token
use Rattle.bf_lex.specs.Bytes.{is_quote}

-- of a minus also whether a number stands right behind it, since the grammar turns on that
pub data Word : Type 0 where
  Keyword : KeywordCase → Word
  Name : List ℕ → Word
  Number : ℕ → Word
  Text : List ℕ → Word
  Minus : Bool → Word
  Sign : SignCase → Word

-- bytes in which each quote is doubled, with each once
abbrev pub undoubled : List ℕ → List ℕ
undoubled [] = []
undoubled (b ∷ []) = b ∷ []
undoubled (b ∷ c ∷ bs) = if is_quote b then b ∷ undoubled bs else b ∷ undoubled (c ∷ bs)

-- what stands between the quotes of a text token
abbrev pub content_of : List ℕ → List ℕ
content_of bytes = undoubled (slice_range bytes 1 (length bytes - 1))

abbrev pub is_number : TokenKind → Bool
is_number (token.Keyword keyword) = false
is_number token.Name = false
is_number (token.Number n) = true
is_number token.Text = false
is_number (token.Sign sign) = false

abbrev pub begins_with_number : List Token → Bool
begins_with_number [] = false
begins_with_number (t ∷ ts) = is_number t.kind

abbrev pub sign_word : SignCase → Bool → Word
sign_word sign.Minus number_behind = Minus number_behind
sign_word other number_behind = Sign other

abbrev pub word_of : TokenKind → List ℕ → Bool → Word
word_of (token.Keyword keyword) bytes number_behind = Keyword keyword
word_of token.Name bytes number_behind = Name (folded bytes)
word_of (token.Number n) bytes number_behind = Number n
word_of token.Text bytes number_behind = Text (content_of bytes)
word_of (token.Sign sign) bytes number_behind = sign_word sign number_behind

-- the words of tokens of a text
abbrev pub words_of : List ℕ → List Token → List Word
words_of text [] = []
words_of text (t ∷ ts) = word_of t.kind (slice_range text t.at t.end) (begins_with_number ts) ∷ words_of text ts
