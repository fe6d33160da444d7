-- PHRASES that statements share. Each expression and each condition counts by itself, from 0.
use Rattle.std.specs.Prelude.{◌≡◌, ℕ, List, Option, None, Some}
use Rattle.bf_lex.specs.declared.keyword.Keyword.{Keyword as KeywordCase}
use Rattle.bf_lex.specs.declared.keyword.Keyword.TheVariants as keyword
use Rattle.bf_lex.specs.declared.sign.Sign.{Sign as SignCase}
use Rattle.bf_lex.specs.declared.sign.Sign.TheVariants as sign
use Rattle.bf_tree.specs.declared.raw.Ref.{Ref}
use Rattle.bf_tree.specs.Trees.{Expr, Cond}
use Rattle.bf_tree.specs.declared.items.Aggregate.{Aggregate}
use Rattle.bf_tree.specs.declared.items.Aggregate.TheVariants as aggregate
use Rattle.bf_phrase.specs.Words as word
use Rattle.bf_phrase.specs.Rules.{Rule, Return, Named, After, Either, Then}
use Rattle.bf_phrase.specs.Expressions.{Sum}
use Rattle.bf_phrase.specs.Conditions.{Disjunction}

abbrev pub AfterKeyword : {A : Type 0} → KeywordCase → Rule A → Rule A
AfterKeyword k rule = After (word.Keyword k) rule

abbrev pub AfterSign : {A : Type 0} → SignCase → Rule A → Rule A
AfterSign s rule = After (word.Sign s) rule

abbrev pub NameRule : Rule (List ℕ)
NameRule = Named (λ name. Return name)

-- ( rule )
abbrev pub Enclosed : {A B : Type 0} → Rule A → (A → Rule B) → Rule B
Enclosed rule next = AfterSign sign.OpeningParenthesis (Then rule (λ a. AfterSign sign.ClosingParenthesis (next a)))

abbrev pub ExprRule : Rule (Expr Ref)
ExprRule steps e = (count : ℕ) × Sum 0 steps (e, count)

-- [WHERE condition]
abbrev pub WhereRule : Rule (Option (Cond Ref))
WhereRule = Either (Return None) (AfterKeyword keyword.Where (λ steps found. (cond : Cond Ref) × (count : ℕ) × Disjunction 0 steps (cond, count) × (found ≡ Some cond)))

-- COUNT ( * ) | SUM ( expr ) | MIN ( expr ) | MAX ( expr )
abbrev pub AggregateRule : Rule (Aggregate (Expr Ref))
AggregateRule = Either
    (AfterKeyword keyword.Count (AfterSign sign.OpeningParenthesis (AfterSign sign.Star (AfterSign sign.ClosingParenthesis (Return aggregate.Count)))))
    (Either (AfterKeyword keyword.Sum (Enclosed ExprRule (λ e. Return (aggregate.Sum e))))
    (Either (AfterKeyword keyword.Min (Enclosed ExprRule (λ e. Return (aggregate.Min e))))
    (AfterKeyword keyword.Max (Enclosed ExprRule (λ e. Return (aggregate.Max e))))))

-- name = expr
abbrev pub SetRule : Rule (List ℕ × Expr Ref)
SetRule = Named (λ column. AfterSign sign.Equal (Then ExprRule (λ e. Return (column, e))))
