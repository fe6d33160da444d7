-- Kinds of bytes, and what stands between tokens.
use Rattle.std.specs.Prelude.{ℕ, Bool, false, ◌&&◌, ◌||◌, not, ◌==◌, nat_le, List, [], ◌∷◌, ◌++◌, IsTrue}
use Rattle.std.specs.List.{list_all}
use Rattle.bf_base.specs.Names.{is_lower, is_digit}

-- space, tab, line feed and carriage return
abbrev pub is_blank : ℕ → Bool
is_blank byte = byte == 32 || byte == 9 || byte == 10 || byte == 13

abbrev pub is_letter : ℕ → Bool
is_letter byte = (nat_le 65 byte && nat_le byte 90) || is_lower byte

abbrev pub is_word_byte : ℕ → Bool
is_word_byte byte = is_letter byte || is_digit byte || byte == 95

abbrev pub quote : ℕ
quote = 39

abbrev pub is_quote : ℕ → Bool
is_quote byte = byte == quote

abbrev pub line_feed : ℕ
line_feed = 10

-- whether bytes begin with one that passes a test
abbrev pub begins : (ℕ → Bool) → List ℕ → Bool
begins test [] = false
begins test (b ∷ bs) = test b

-- the bytes of a comment behind its two dashes, up to where its line ends
abbrev pub is_line : List ℕ → Bool
is_line bytes = list_all (λ b. not (b == line_feed)) bytes

-- GAP: blanks, and comments with the line feeds that end them
pub data IsGap : List ℕ → Type 0 where
  nothing : IsGap []
  blank : {rest : List ℕ} (byte : ℕ) → IsTrue (is_blank byte) → IsGap rest → IsGap (byte ∷ rest)
  comment : {rest : List ℕ} (line : List ℕ) → IsTrue (is_line line) → IsGap rest → IsGap (45 ∷ 45 ∷ (line ++ line_feed ∷ rest))

-- what may stand behind the last token: a gap, and a comment that nothing ends
pub data IsLastGap : List ℕ → Type 0 where
  closed : {gap : List ℕ} → IsGap gap → IsLastGap gap
  open_comment : {gap : List ℕ} (line : List ℕ) → IsTrue (is_line line) → IsGap gap → IsLastGap (gap ++ 45 ∷ 45 ∷ line)
