-- What a list asks of the rule of its parts.
use Rattle.std.specs.Prelude.{◌≡◌, ◌≤◌, Bool, true, false, List, [], ◌∷◌}
use Rattle.bf_base.specs.Limits.{int_end}
use Rattle.bf_lex.specs.declared.sign.Sign.TheVariants.{Comma, ClosingParenthesis}
use Rattle.bf_phrase.specs.Words.{Word, Keyword, Name, Number, Text, Minus, Sign}
use Rattle.bf_phrase.specs.Steps.{Step, said}
use Rattle.bf_phrase.specs.Rules.{Rule}
use Rattle.bf_phrase.specs.Reading.{CanGoOn}
use Rattle.bf_phrase.specs.First.{begins}

-- a word that a token can be
abbrev pub IsSayable : Word → Type 0
IsSayable (Keyword keyword) = Unit {0}
IsSayable (Name name) = Unit {0}
IsSayable (Number n) = n ≤ int_end
IsSayable (Text text) = Unit {0}
IsSayable (Minus number_behind) = Unit {0}
IsSayable (Sign sign) = Unit {0}

-- A rule of which lists are made: what begins it, which can be gone on with from each such word on, and by which words it
-- goes on. A comma or a closing parenthesis is none of these.
pub record IsPart {A : Type 0} (follow first : Word → Bool) (rule : Rule A) : Type 0 where
  pub opens : (steps : List Step) (a : A) → rule steps a → begins first (said steps) ≡ true
  pub starts : (word : Word) → IsSayable word → first word ≡ true → (next : List Step) × (said next ≡ word ∷ []) × CanGoOn rule next
  pub some : CanGoOn rule []
  pub comma : follow (Sign Comma) ≡ false
  pub closing : follow (Sign ClosingParenthesis) ≡ false
