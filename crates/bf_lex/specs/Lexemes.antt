-- LEXEMES: words, runs of digits, quoted texts and signs, whatever their size; and the tokens that they are.
use Rattle.std.specs.Prelude.{◌≡◌, ℕ, ◌+◌, ◌-◌, ◌*◌, Bool, false, ◌&&◌, ◌||◌, ◌==◌, nat_le, if◌then◌else◌, List, [], ◌∷◌, ◌++◌, flat_map, length, Option, Some, None, Result, Ok, Err, IsTrue}
use Rattle.std.specs.List.{list_all}
use Rattle.bf_base.specs.Limits.{longest_text, longest_name, int_end}
use Rattle.bf_base.specs.Lists.{same_name, has}
use Rattle.bf_base.specs.Names.{is_digit, folded}
use Rattle.bf_base.specs.Texts.{first_bad_of}
use Rattle.bf_lex.specs.declared.keyword.Keyword.{Keyword as KeywordCase}
use Rattle.bf_lex.specs.declared.sign.Sign.{Sign as SignCase}
use Rattle.bf_lex.specs.declared.fault.ScriptKind.{ScriptKind}
use Rattle.bf_lex.specs.declared.fault.ScriptKind.TheVariants as kind
use Rattle.bf_lex.specs.declared.token.TokenKind.{TokenKind}
use Rattle.bf_lex.specs.declared.token.TokenKind.TheVariants as token
use Rattle.bf_lex.specs.Bytes.{is_letter, is_word_byte, quote, is_quote, begins}
use Rattle.bf_lex.specs.Words.{keyword_of, spellings}

pub data Lexeme : Type 0 where
  Word : Lexeme
  Digits : Lexeme
  Quoted : List ℕ → Lexeme
  Mark : SignCase → Lexeme

-- a letter, and letters, digits and underscores
abbrev pub is_word : List ℕ → Bool
is_word [] = false
is_word (b ∷ bs) = is_letter b && list_all is_word_byte bs

-- one digit or more
abbrev pub is_number : List ℕ → Bool
is_number [] = false
is_number (d ∷ ds) = list_all is_digit (d ∷ ds)

-- a byte inside a quoted text: a quote is doubled
abbrev pub doubled : ℕ → List ℕ
doubled byte = if is_quote byte then quote ∷ quote ∷ [] else byte ∷ []

-- a content between quotes
abbrev pub quoted : List ℕ → List ℕ
quoted content = quote ∷ (flat_map doubled content ++ quote ∷ [])

-- the bytes that are the lexeme
abbrev pub Spells : Lexeme → List ℕ → Type 0
Spells Word bytes = IsTrue (is_word bytes)
Spells Digits bytes = IsTrue (is_number bytes)
Spells (Quoted content) bytes = bytes ≡ quoted content
Spells (Mark sign) bytes = IsTrue (has same_name (spellings sign) bytes)

-- the bytes with which a longer sign, or a comment, begins
abbrev pub begins_longer : List ℕ → ℕ → Bool
begins_longer bytes byte =
    same_name bytes (60 ∷ []) && (byte == 61 || byte == 62)
    || same_name bytes (62 ∷ []) && byte == 61
    || same_name bytes (45 ∷ []) && byte == 45

-- whether the lexeme that these bytes are goes on with the next byte
abbrev pub goes_on : Lexeme → List ℕ → ℕ → Bool
goes_on Word bytes byte = is_word_byte byte
goes_on Digits bytes byte = is_digit byte
goes_on (Quoted content) bytes byte = is_quote byte
goes_on (Mark sign) bytes byte = begins_longer bytes byte

-- a lexeme stands at the front of a text, as long as possible
pub record StandsIn (lexeme : Lexeme) (bytes behind : List ℕ) : Type 0 where
  pub spelled : Spells lexeme bytes
  pub ends : begins (goes_on lexeme bytes) behind ≡ false

-- the number that digits write, behind a number
abbrev pub number_from : ℕ → List ℕ → ℕ
number_from high [] = high
number_from high (d ∷ ds) = number_from (high * 10 + (d - 48)) ds

-- a fault at a place of a lexeme
abbrev pub Misfit : Type 0
Misfit = ScriptKind × ℕ

abbrev pub word_token : Option KeywordCase → ℕ → Result TokenKind Misfit
word_token (Some keyword) length = Ok (token.Keyword keyword)
word_token None length = if nat_le length longest_name then Ok token.Name else Err (kind.NameTooLong, 0)

abbrev pub text_token : Option ℕ → Result TokenKind Misfit
text_token (Some bad) = Err (kind.BadByte, bad)
text_token None = Ok token.Text

-- TOKEN: what a lexeme is, within the limits of tokens; else the fault, and its place from the lexeme's first byte
abbrev pub token_of : Lexeme → List ℕ → Result TokenKind Misfit
token_of Word bytes = word_token (keyword_of (folded bytes)) (length bytes)
token_of Digits bytes = if nat_le (number_from 0 bytes) int_end then Ok (token.Number (number_from 0 bytes)) else Err (kind.NumberTooWide, 0)
token_of (Quoted content) bytes = if nat_le (length content) longest_text then text_token (first_bad_of bytes) else Err (kind.TextTooLong, 0)
token_of (Mark sign) bytes = Ok (token.Sign sign)
