-- EXPRESSIONS: sums of products of factors, grouped to the left. Operators and opening parentheses are counted: a rule
-- takes how many came before, and gives how many have come then.
use Rattle.std.specs.Prelude.{◌≡◌, ℕ, ◌+◌, ◌≤◌, pos, neg_ℤ, Bool, true, false, List, [], ◌∷◌, ◌++◌, Option, Some, None}
use Rattle.bf_base.specs.Limits.{int_end}
use Rattle.bf_base.specs.declared.value.Value.TheVariants.{Int, Text}
use Rattle.bf_lex.specs.declared.sign.Sign.TheVariants as sign
use Rattle.bf_tree.specs.declared.raw.Ref.{Ref}
use Rattle.bf_tree.specs.Trees.{Expr, literal, column, negated, plus, minus, times, joined}
use Rattle.bf_phrase.specs.declared.sum_operator.SumOperator.{SumOperator}
use Rattle.bf_phrase.specs.declared.sum_operator.SumOperator.TheVariants as operator
use Rattle.bf_phrase.specs.Words.{Word, Minus}
use Rattle.bf_phrase.specs.Words as word
use Rattle.bf_phrase.specs.Steps.{Step, Say, Limit, Node, Widest, said}
use Rattle.bf_phrase.specs.Rules.{Rule, Return, Named, After, Either}

-- an expression as it is written, and how many counted words have come
abbrev pub Counted : Type 0
Counted = Expr Ref × ℕ

abbrev pub ref_to : Option (List ℕ) → List ℕ → Ref
ref_to table name = record { table = table; column = name }

-- name  or  name . name
abbrev pub RefRule : Rule Ref
RefRule = Named (λ first. Either (Return (ref_to None first)) (After (word.Sign sign.Point) (Named (λ second. Return (ref_to (Some first) second)))))

-- the end of the INTs is an INT behind a minus alone
pub data NumberRule : List Step → ℕ → Type 0 where
  narrow : {steps : List Step} {n : ℕ} → n + 1 ≤ int_end → steps ≡ Say (word.Number n) ∷ [] → NumberRule steps n
  widest : {steps : List Step} {n : ℕ} → n ≡ int_end → steps ≡ Limit Widest ∷ Say (word.Number n) ∷ [] → NumberRule steps n

-- whether a number stands first
abbrev pub is_number : Word → Bool
is_number (word.Keyword keyword) = false
is_number (word.Name name) = false
is_number (word.Number n) = true
is_number (word.Text text) = false
is_number (word.Minus number_behind) = false
is_number (word.Sign sign) = false

abbrev pub begins_with_number : List Word → Bool
begins_with_number [] = false
begins_with_number (w ∷ ws) = is_number w

-- a minus before these steps
abbrev pub minus_before : List Step → Word
minus_before steps = Minus (begins_with_number (said steps))

-- the word of an operator of a sum before these steps
abbrev pub sum_word : SumOperator → List Step → Word
sum_word operator.Plus front = word.Sign sign.Plus
sum_word operator.Difference front = minus_before front
sum_word operator.Concatenation front = word.Sign sign.Bars

abbrev pub sum_of : SumOperator → Expr Ref → Expr Ref → Expr Ref
sum_of operator.Plus a b = plus a b
sum_of operator.Difference a b = minus a b
sum_of operator.Concatenation a b = joined a b

mutual
  -- number | - number | - factor | text | ref | ( expression )
  pub data Factor : ℕ → List Step → Counted → Type 0 where
    number : {n : ℕ} {steps : List Step} {x : Counted} (v : ℕ) → NumberRule steps v → x ≡ (literal (Int (pos v)), n) → Factor n steps x
    negative : {n : ℕ} {steps : List Step} {x : Counted} (v : ℕ) → v ≤ int_end → steps ≡ Say (Minus true) ∷ Say (word.Number v) ∷ []
        → x ≡ (literal (Int (neg_ℤ (pos v))), n) → Factor n steps x
    opposite : {n : ℕ} {steps : List Step} {x : Counted} (a : Expr Ref) (m : ℕ) (front : List Step) → Factor (n + 1) front (a, m)
        → begins_with_number (said front) ≡ false → steps ≡ Limit (Node (n + 1)) ∷ Say (Minus false) ∷ front → x ≡ (negated a, m) → Factor n steps x
    text : {n : ℕ} {steps : List Step} {x : Counted} (t : List ℕ) → steps ≡ Say (word.Text t) ∷ [] → x ≡ (literal (Text t), n) → Factor n steps x
    ref : {n : ℕ} {steps : List Step} {x : Counted} (r : Ref) → RefRule steps r → x ≡ (column r, n) → Factor n steps x
    parenthesis : {n : ℕ} {steps : List Step} {x : Counted} (inner : List Step) → Sum (n + 1) inner x
        → steps ≡ Limit (Node (n + 1)) ∷ Say (word.Sign sign.OpeningParenthesis) ∷ (inner ++ Say (word.Sign sign.ClosingParenthesis) ∷ []) → Factor n steps x

  -- factor ( * factor )*
  pub data Product : ℕ → List Step → Counted → Type 0 where
    product : {n : ℕ} {steps : List Step} {x : Counted} (front back : List Step) (a : Counted) → Factor n front a → Factors a back x
        → steps ≡ front ++ back → Product n steps x

  -- ( * factor )* behind a product
  pub data Factors : Counted → List Step → Counted → Type 0 where
    no_factor : {a : Counted} {steps : List Step} {x : Counted} → steps ≡ [] → x ≡ a → Factors a steps x
    other_factor : {a : Counted} {steps : List Step} {x : Counted} (front back : List Step) (b : Counted) → Factor (a.1 + 1) front b
        → Factors (times a.0 b.0, b.1) back x → steps ≡ Limit (Node (a.1 + 1)) ∷ Say (word.Sign sign.Star) ∷ (front ++ back) → Factors a steps x

  -- product ( (+ | - | ||) product )*
  pub data Sum : ℕ → List Step → Counted → Type 0 where
    sum : {n : ℕ} {steps : List Step} {x : Counted} (front back : List Step) (a : Counted) → Product n front a → Products a back x
        → steps ≡ front ++ back → Sum n steps x

  -- ( (+ | - | ||) product )* behind a sum
  pub data Products : Counted → List Step → Counted → Type 0 where
    no_product : {a : Counted} {steps : List Step} {x : Counted} → steps ≡ [] → x ≡ a → Products a steps x
    other_product : {a : Counted} {steps : List Step} {x : Counted} (operator : SumOperator) (front back : List Step) (b : Counted) → Product (a.1 + 1) front b
        → Products (sum_of operator a.0 b.0, b.1) back x
        → steps ≡ Limit (Node (a.1 + 1)) ∷ Say (sum_word operator front) ∷ (front ++ back) → Products a steps x
