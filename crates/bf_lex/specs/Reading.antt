-- What private functions promise of the front of a text.
use Rattle.std.specs.Prelude.{◌≡◌, ℕ, ◌+◌, ◌<◌, ◌≤◌, Bool, false, ◌&&◌, ◌||◌, ◌==◌, nat_le, if◌then◌else◌, List, [], ◌∷◌, ◌++◌, take, drop, flat_map, length, Option, Some, None, Result, Ok, Err, IsTrue}
use Rattle.bf_base.specs.Limits.{int_end}
use Rattle.bf_lex.specs.declared.sign.Sign.{Sign}
use Rattle.bf_lex.specs.declared.sign.Sign.TheVariants as sign
use Rattle.bf_lex.specs.declared.fault.ScriptFault.{ScriptFault}
use Rattle.bf_lex.specs.declared.fault.ScriptKind.{ScriptKind}
use Rattle.bf_lex.specs.declared.token.Token.{Token}
use Rattle.bf_lex.specs.declared.token.TokenKind.{TokenKind}
use Rattle.bf_lex.specs.Bytes.{is_blank, is_line, line_feed, quote, is_quote, begins, IsGap, IsLastGap}
use Rattle.bf_lex.specs.Lexemes.{Lexeme, StandsIn, doubled, token_of, number_from}
use Rattle.bf_lex.specs.Lexing.{IsNext, IsWrong}

-- whether a text begins with a blank or with two dashes
abbrev pub begins_gap : List ℕ → Bool
begins_gap [] = false
begins_gap (b ∷ bs) = is_blank b || (b == 45 && begins (λ c. c == 45) bs)

-- a line feed, behind which these bytes stand, ends the line at the front
pub record EndsLine (text behind : List ℕ) : Type 0 where
  pub line : List ℕ
  pub is_line : IsTrue (is_line line)
  pub split : text ≡ line ++ line_feed ∷ behind

-- the bytes behind a gap that is as long as possible, which are some
pub record IsBehindGap (text rest : List ℕ) : Type 0 where
  pub gap : List ℕ
  pub split : text ≡ gap ++ rest
  pub is_gap : IsGap gap
  pub some : 0 < length rest
  pub no_gap : begins_gap rest ≡ false

-- a token of so many bytes stands at the front
pub record IsTokenAt (text : List ℕ) (kind : TokenKind) (size : ℕ) : Type 0 where
  pub lexeme : Lexeme
  pub some : 0 < size
  pub inside : size ≤ length text
  pub stands : StandsIn lexeme (take size text) (drop size text)
  pub is_token : token_of lexeme (take size text) ≡ Ok kind

-- the token at the front, or what is wrong there
abbrev pub IsRead : List ℕ → Result (TokenKind × ℕ) (ScriptKind × ℕ) → Type 0
IsRead text (Ok found) = IsTokenAt text found.0 found.1
IsRead text (Err fault) = IsWrong text fault.0 fault.1 × (fault.1 ≤ length text)

-- a fault behind a gap at the front of a text that begins at a place
pub record IsWrongBehindGap (place : ℕ) (text : List ℕ) (fault : ScriptFault) : Type 0 where
  pub gap : List ℕ
  pub wrong : List ℕ
  pub offset : ℕ
  pub split : text ≡ gap ++ wrong
  pub is_gap : IsGap gap
  pub is_wrong : IsWrong wrong fault.kind offset
  pub at : fault.at ≡ place + length gap + offset

-- the number that digits write, within the limits of numbers
abbrev pub number_within : List ℕ → Option ℕ
number_within digits = if nat_le (number_from 0 digits) int_end then Some (number_from 0 digits) else None

-- behind an opening quote, so many bytes up to the closing one, which write a content of so many
pub record IsClosed (text : List ℕ) (size count : ℕ) : Type 0 where
  pub content : List ℕ
  pub counted : count ≡ length content
  pub inside : size ≤ length text
  pub closed : take size text ≡ flat_map doubled content ++ quote ∷ []
  pub ends : begins is_quote (drop size text) ≡ false

-- behind an opening quote, no quote that closes
pub record IsOpen (text : List ℕ) : Type 0 where
  pub content : List ℕ
  pub unclosed : text ≡ flat_map doubled content

-- the sign of two bytes
abbrev pub long_sign : ℕ → ℕ → Option Sign
long_sign first second =
    if first == 60 then (if second == 62 then Some sign.Unequal else (if second == 61 then Some sign.LessEqual else None))
    else (if first == 33 then (if second == 61 then Some sign.Unequal else None)
    else (if first == 62 then (if second == 61 then Some sign.GreaterEqual else None)
    else (if first == 124 then (if second == 124 then Some sign.Bars else None)
    else None)))

-- the sign of one byte
abbrev pub short_sign : ℕ → Option Sign
short_sign byte =
    if byte == 40 then Some sign.OpeningParenthesis
    else (if byte == 41 then Some sign.ClosingParenthesis
    else (if byte == 44 then Some sign.Comma
    else (if byte == 59 then Some sign.Semicolon
    else (if byte == 46 then Some sign.Point
    else (if byte == 42 then Some sign.Star
    else (if byte == 43 then Some sign.Plus
    else (if byte == 45 then Some sign.Minus
    else (if byte == 61 then Some sign.Equal
    else (if byte == 60 then Some sign.Less
    else (if byte == 62 then Some sign.Greater
    else None))))))))))

-- the token behind a gap at the front of a text that begins at a place, and the bytes behind it; a last gap; or the
-- first fault, behind a gap
abbrev pub IsNextRead : {X : Type 0} → ℕ → List ℕ → (X → Token × List ℕ) → Result (Option X) ScriptFault → Type 0
IsNextRead place text view (Ok (Some found)) = IsNext place text (view found).0 (view found).1 × ((view found).0.end + length (view found).1 ≡ place + length text) × (length (view found).1 < length text)
IsNextRead place text view (Ok None) = IsLastGap text
IsNextRead place text view (Err fault) = IsWrongBehindGap place text fault

-- a sign with its size, or else another
abbrev pub sized : Option Sign → ℕ → Option (Sign × ℕ) → Option (Sign × ℕ)
sized (Some s) size other = Some (s, size)
sized None size other = other

-- the sign at the front, and its size
abbrev pub sign_front : List ℕ → Option (Sign × ℕ)
sign_front [] = None
sign_front (only ∷ []) = sized (short_sign only) 1 None
sign_front (first ∷ second ∷ rest) = sized (long_sign first second) 2 (sized (short_sign first) 1 None)
