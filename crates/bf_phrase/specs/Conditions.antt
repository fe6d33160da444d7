-- CONDITIONS: comparisons of columns and literals, joined by OR, AND and NOT. Comparisons, BETWEENs, NOTs, ANDs between
-- conditions, ORs and opening parentheses are counted.
use Rattle.std.specs.Prelude.{◌≡◌, ℕ, ◌+◌, ◌≤◌, pos, neg_ℤ, Bool, List, [], ◌∷◌, ◌++◌}
use Rattle.bf_base.specs.Limits.{int_end}
use Rattle.bf_base.specs.declared.value.Value.{Value}
use Rattle.bf_base.specs.declared.value.Value.TheVariants.{Int, Text}
use Rattle.bf_lex.specs.declared.keyword.Keyword.TheVariants as keyword
use Rattle.bf_lex.specs.declared.sign.Sign.{Sign as SignCase}
use Rattle.bf_lex.specs.declared.sign.Sign.TheVariants as sign
use Rattle.bf_tree.specs.declared.compare.Compare.{Compare}
use Rattle.bf_tree.specs.declared.compare.Compare.TheVariants as compare
use Rattle.bf_tree.specs.declared.raw.Ref.{Ref}
use Rattle.bf_tree.specs.Trees.{Expr, literal, column, Cond, compared, between, opposite, both, either}
use Rattle.bf_phrase.specs.Words as word
use Rattle.bf_phrase.specs.Steps.{Step, Say, Limit, Node}
use Rattle.bf_phrase.specs.Expressions.{NumberRule, RefRule}

-- [-] number. A minus may stand here whatever is behind it; without a number behind, the refused word is the one behind it
pub data SignedRule : List Step → Value → Type 0 where
  number : {steps : List Step} {x : Value} (v : ℕ) → NumberRule steps v → x ≡ Int (pos v) → SignedRule steps x
  negative : {steps : List Step} {x : Value} (v : ℕ) (number_behind : Bool) → v ≤ int_end → steps ≡ Say (word.Minus number_behind) ∷ Say (word.Number v) ∷ []
      → x ≡ Int (neg_ℤ (pos v)) → SignedRule steps x

-- [-] number | text
pub data LiteralRule : List Step → Value → Type 0 where
  signed : {steps : List Step} {x : Value} → SignedRule steps x → LiteralRule steps x
  text : {steps : List Step} {x : Value} (t : List ℕ) → steps ≡ Say (word.Text t) ∷ [] → x ≡ Text t → LiteralRule steps x

-- literal | ref
pub data OperandRule : List Step → Expr Ref → Type 0 where
  value : {steps : List Step} {x : Expr Ref} (v : Value) → LiteralRule steps v → x ≡ literal v → OperandRule steps x
  ref : {steps : List Step} {x : Expr Ref} (r : Ref) → RefRule steps r → x ≡ column r → OperandRule steps x

abbrev pub compare_sign : Compare → SignCase
compare_sign compare.Equal = sign.Equal
compare_sign compare.Unequal = sign.Unequal
compare_sign compare.Less = sign.Less
compare_sign compare.LessEqual = sign.LessEqual
compare_sign compare.Greater = sign.Greater
compare_sign compare.GreaterEqual = sign.GreaterEqual

-- a condition as it is written, and how many counted words have come
abbrev pub CountedCond : Type 0
CountedCond = Cond Ref × ℕ

mutual
  -- NOT negation | ( condition ) | operand comparison operand | operand BETWEEN operand AND operand
  pub data Negation : ℕ → List Step → CountedCond → Type 0 where
    not : {n : ℕ} {steps : List Step} {x : CountedCond} (c : Cond Ref) (m : ℕ) (front : List Step) → Negation (n + 1) front (c, m)
        → steps ≡ Limit (Node (n + 1)) ∷ Say (word.Keyword keyword.Not) ∷ front → x ≡ (opposite c, m) → Negation n steps x
    parenthesis : {n : ℕ} {steps : List Step} {x : CountedCond} (inner : List Step) → Disjunction (n + 1) inner x
        → steps ≡ Limit (Node (n + 1)) ∷ Say (word.Sign sign.OpeningParenthesis) ∷ (inner ++ Say (word.Sign sign.ClosingParenthesis) ∷ []) → Negation n steps x
    comparison : {n : ℕ} {steps : List Step} {x : CountedCond} (op : Compare) (a b : Expr Ref) (left right : List Step) → OperandRule left a → OperandRule right b
        → steps ≡ left ++ Limit (Node (n + 1)) ∷ Say (word.Sign (compare_sign op)) ∷ right → x ≡ (compared op a b, n + 1) → Negation n steps x
    range : {n : ℕ} {steps : List Step} {x : CountedCond} (a low high : Expr Ref) (first second third : List Step) → OperandRule first a → OperandRule second low → OperandRule third high
        → steps ≡ first ++ Limit (Node (n + 1)) ∷ Say (word.Keyword keyword.Between) ∷ (second ++ Say (word.Keyword keyword.And) ∷ third) → x ≡ (between a low high, n + 1) → Negation n steps x

  -- negation ( AND negation )*, grouped to the left
  pub data Conjunction : ℕ → List Step → CountedCond → Type 0 where
    conjunction : {n : ℕ} {steps : List Step} {x : CountedCond} (front back : List Step) (c : CountedCond) → Negation n front c → Negations c back x
        → steps ≡ front ++ back → Conjunction n steps x

  pub data Negations : CountedCond → List Step → CountedCond → Type 0 where
    no_negation : {c : CountedCond} {steps : List Step} {x : CountedCond} → steps ≡ [] → x ≡ c → Negations c steps x
    other_negation : {c : CountedCond} {steps : List Step} {x : CountedCond} (front back : List Step) (d : CountedCond) → Negation (c.1 + 1) front d
        → Negations (both c.0 d.0, d.1) back x → steps ≡ Limit (Node (c.1 + 1)) ∷ Say (word.Keyword keyword.And) ∷ (front ++ back) → Negations c steps x

  -- conjunction ( OR conjunction )*, grouped to the left
  pub data Disjunction : ℕ → List Step → CountedCond → Type 0 where
    disjunction : {n : ℕ} {steps : List Step} {x : CountedCond} (front back : List Step) (c : CountedCond) → Conjunction n front c → Conjunctions c back x
        → steps ≡ front ++ back → Disjunction n steps x

  pub data Conjunctions : CountedCond → List Step → CountedCond → Type 0 where
    no_conjunction : {c : CountedCond} {steps : List Step} {x : CountedCond} → steps ≡ [] → x ≡ c → Conjunctions c steps x
    other_conjunction : {c : CountedCond} {steps : List Step} {x : CountedCond} (front back : List Step) (d : CountedCond) → Conjunction (c.1 + 1) front d
        → Conjunctions (either c.0 d.0, d.1) back x → steps ≡ Limit (Node (c.1 + 1)) ∷ Say (word.Keyword keyword.Or) ∷ (front ++ back) → Conjunctions c steps x
