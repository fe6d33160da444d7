-- Comparisons and BETWEENs, which both begin with an operand.
use Rattle.std.specs.Prelude.{◌≡◌, ℕ, ◌+◌, Bool, true, false, List, ◌∷◌, Option, Some, None}
use Rattle.bf_tree.specs.Trees.{Expr, compared, between}
use Rattle.bf_tree.specs.declared.compare.Compare.{Compare}
use Rattle.bf_tree.specs.declared.raw.Ref.{Ref}
use Rattle.bf_lex.specs.declared.keyword.Keyword.TheVariants.{And, Between}
use Rattle.bf_lex.specs.declared.sign.Sign.TheVariants.{Equal, Unequal, Less, LessEqual, Greater, GreaterEqual}
use Rattle.bf_phrase.specs.declared.cursor.Cursor.{Cursor}
use Rattle.bf_phrase.specs.Words.{Word, Keyword, Sign}
use Rattle.bf_phrase.specs.Steps.{Step, Say, Node}
use Rattle.bf_phrase.specs.Rules.{Return, After, Marked, Either, Then}
use Rattle.bf_phrase.specs.Cursors.{words}
use Rattle.bf_phrase.specs.First.{begins}
use Rattle.bf_phrase.specs.Conditions.{CountedCond, OperandRule, compare_sign}

abbrev pub is_comparison : Word → Bool
is_comparison (Sign Equal) = true
is_comparison (Sign Unequal) = true
is_comparison (Sign Less) = true
is_comparison (Sign LessEqual) = true
is_comparison (Sign Greater) = true
is_comparison (Sign GreaterEqual) = true
is_comparison other = false

abbrev pub HasComparison : List Word → Option (Compare × Cursor) → Type 0
HasComparison ws (Some found) = ws ≡ Sign (compare_sign found.0) ∷ words found.1
HasComparison ws None = begins is_comparison ws ≡ false

pub record IsComparison (ws : List Word) (found : Option (Compare × Cursor)) : Type 0 where
  pub it : HasComparison ws found

-- behind an operand, a sign and an operand
abbrev pub Compared : ℕ → Expr Ref → List Step → CountedCond → Type 0
Compared n a s x = (op : Compare) × (rest : List Step) × (s ≡ Say (Sign (compare_sign op)) ∷ rest) × Then OperandRule (λ b. Return (compared op a b, n + 1)) rest x

-- or BETWEEN and two operands
abbrev pub Ranged : ℕ → Expr Ref → List Step → CountedCond → Type 0
Ranged n a = Then OperandRule (λ low. After (Keyword And) (Then OperandRule (λ high. Return (between a low high, n + 1))))

abbrev pub Tested : ℕ → Expr Ref → List Step → CountedCond → Type 0
Tested n a = Either (Marked (Node (n + 1)) (Compared n a)) (Marked (Node (n + 1)) (After (Keyword Between) (Ranged n a)))

abbrev pub TestRule : ℕ → List Step → CountedCond → Type 0
TestRule n = Then OperandRule (Tested n)
