-- LEXING: the tokens of a text, from left to right and each as long as possible, and the first fault.
use Rattle.std.specs.Prelude.{◌≡◌, ℕ, ◌+◌, ◌⊎◌, if◌then◌else◌, List, [], ◌∷◌, ◌++◌, length, Result, Ok, Err}
use Rattle.bf_lex.specs.declared.fault.ScriptKind.{ScriptKind}
use Rattle.bf_lex.specs.declared.fault.ScriptKind.TheVariants.{BadByte, OpenString}
use Rattle.bf_lex.specs.declared.fault.ScriptFault.{ScriptFault}
use Rattle.bf_lex.specs.declared.token.Token.{Token}
use Rattle.bf_lex.specs.Bytes.{IsGap, IsLastGap, is_quote, begins}
use Rattle.bf_lex.specs.Lexemes.{Lexeme, StandsIn, token_of}

-- a token stands behind a gap at the front of a text that begins at a place, and leaves the bytes behind it
pub record IsNext (at : ℕ) (text : List ℕ) (t : Token) (behind : List ℕ) : Type 0 where
  pub gap : List ℕ
  pub bytes : List ℕ
  pub lexeme : Lexeme
  pub split : text ≡ gap ++ (bytes ++ behind)
  pub is_gap : IsGap gap
  pub stands : StandsIn lexeme bytes behind
  pub is_token : token_of lexeme bytes ≡ Ok t.kind
  pub begins_at : t.at ≡ at + length gap
  pub ends_at : t.end ≡ t.at + length bytes

-- the tokens at the front of a text that begins at a place, and the place and the bytes behind them
abbrev pub Front : ℕ → List ℕ → List Token → ℕ → List ℕ → Type 0
Front at text [] place rest = (place ≡ at) × (rest ≡ text)
Front at text (t ∷ ts) place rest = (behind : List ℕ) × IsNext at text t behind × Front t.end behind ts place rest

-- no lexeme stands at the front
abbrev pub NoneStands : List ℕ → Type 0
NoneStands text = (lexeme : Lexeme) (bytes behind : List ℕ) → text ≡ bytes ++ behind → StandsIn lexeme bytes behind → ⊥

-- a lexeme at the front is no token
pub record IsMisfit (text : List ℕ) (kind : ScriptKind) (offset : ℕ) : Type 0 where
  pub bytes : List ℕ
  pub behind : List ℕ
  pub lexeme : Lexeme
  pub split : text ≡ bytes ++ behind
  pub stands : StandsIn lexeme bytes behind
  pub no_token : token_of lexeme bytes ≡ Err (kind, offset)

-- neither a gap nor a lexeme begins at the front, which is not the end
pub record IsStray (text : List ℕ) : Type 0 where
  pub byte : ℕ
  pub rest : List ℕ
  pub split : text ≡ byte ∷ rest
  pub none_stands : NoneStands text
  pub no_gap : (gap behind : List ℕ) → text ≡ gap ++ behind → IsGap gap → gap ≡ []
  pub no_last_gap : IsLastGap text → ⊥

-- what is wrong at the front, and how far from there: a quote that no other closes, another byte with which nothing
-- begins, or a lexeme beyond the limits
abbrev pub IsWrong : List ℕ → ScriptKind → ℕ → Type 0
IsWrong text kind offset =
    IsMisfit text kind offset
    ⊎ (IsStray text × (offset ≡ 0) × (kind ≡ (if begins is_quote text then OpenString else BadByte)))

-- the tokens up to the first fault are tokens
pub record IsFirstFault (text : List ℕ) (fault : ScriptFault) : Type 0 where
  pub before : List Token
  pub place : ℕ
  pub rest : List ℕ
  pub gap : List ℕ
  pub wrong : List ℕ
  pub offset : ℕ
  pub front : Front 0 text before place rest
  pub split : rest ≡ gap ++ wrong
  pub is_gap : IsGap gap
  pub is_wrong : IsWrong wrong fault.kind offset
  pub at : fault.at ≡ place + length gap + offset

-- all of the text is tokens
pub record IsAllTokens (text : List ℕ) (ts : List Token) : Type 0 where
  pub place : ℕ
  pub rest : List ℕ
  pub front : Front 0 text ts place rest
  pub last_gap : IsLastGap rest

-- READS: the tokens of a text, or its first fault
abbrev pub IsLexed : List ℕ → Result (List Token) ScriptFault → Type 0
IsLexed text (Ok ts) = IsAllTokens text ts
IsLexed text (Err fault) = IsFirstFault text fault
