-- TOKENS of a text: what the parser needs to know of each. All tails of tokens are tokens.
use Rattle.std.specs.Prelude.{◌≡◌, ℕ, ◌≤◌, List, [], ◌∷◌, length, slice_range, IsTrue}
use Rattle.bf_base.specs.Limits.{int_end}
use Rattle.bf_base.specs.Names.{is_name, folded}
use Rattle.bf_base.specs.Texts.{IsText}
use Rattle.bf_lex.specs.declared.token.Token.{Token}
use Rattle.bf_lex.specs.declared.token.TokenKind.{TokenKind}
use Rattle.bf_lex.specs.declared.token.TokenKind.TheVariants as token
use Rattle.bf_lex.specs.Lexemes.{quoted}

-- bytes that a token of this kind can have
abbrev pub IsSpelling : TokenKind → List ℕ → Type 0
IsSpelling (token.Keyword keyword) bytes = Unit {0}
IsSpelling token.Name bytes = IsTrue (is_name (folded bytes))
IsSpelling (token.Number n) bytes = n ≤ int_end
IsSpelling token.Text bytes = (inner : List ℕ) × IsText inner × (bytes ≡ quoted inner)
IsSpelling (token.Sign sign) bytes = Unit {0}

pub record IsTokenOf (text : List ℕ) (t : Token) : Type 0 where
  pub begins_inside : t.at ≤ t.end
  pub ends_inside : t.end ≤ length text
  pub spelled : IsSpelling t.kind (slice_range text t.at t.end)

abbrev pub AreTokensAs : List ℕ → List Token → Type 0
AreTokensAs text [] = Unit {0}
AreTokensAs text (t ∷ ts) = IsTokenOf text t × AreTokensAs text ts

pub record AreTokens (text : List ℕ) (ts : List Token) : Type 0 where
  pub it : AreTokensAs text ts
