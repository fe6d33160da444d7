-- With what the parts of lists begin.
use Rattle.std.proofs.Common.{◌≡◌, ℕ, ◌≤◌, ◌^◌, pos, true, false, List, [], ◌∷◌, None, refl, sym, ap, subst, ◌∙◌, inl, inr, arith}
use Rattle.std.proofs.lemmas.Bool.{cases_lt}
use Rattle.std.proofs.lemmas.List.{append-nil}
use Rattle.bf_base.specs.declared.value.Value.{Value}
use Rattle.bf_base.specs.declared.value.Value.TheVariants as value
use Rattle.bf_tree.specs.declared.raw.Ref.{Ref}
use Rattle.bf_tree.specs.Trees.{Expr}
use Rattle.bf_tree.specs.Trees as tree
use Rattle.bf_lex.specs.declared.keyword.Keyword.TheVariants as keyword
use Rattle.bf_lex.specs.declared.sign.Sign.TheVariants as sign
use Rattle.bf_tree.specs.declared.items.Aggregate.{Aggregate}
use Rattle.bf_tree.specs.declared.items.Aggregate.TheVariants as aggregate
use Rattle.bf_tree.specs.declared.statement.ColumnForm.TheVariants as form
use Rattle.bf_phrase.specs.Words.{Word}
use Rattle.bf_phrase.specs.Words as word
use Rattle.bf_phrase.specs.Steps.{Step, Say, Limit, Node, Widest, said}
use Rattle.bf_phrase.specs.Rules.{Return}
use Rattle.bf_phrase.specs.Reading.{CanGoOn}
use Rattle.bf_phrase.specs.First.{begins, is_name, first_constant, first_expression, first_aggregate}
use Rattle.bf_phrase.specs.Follow.{follow_sum, is_point, nothing, is_check}
use Rattle.bf_phrase.specs.Parts.{IsPart, IsSayable}
use Rattle.bf_phrase.specs.Expressions.{Counted, RefRule, NumberRule, narrow, widest, ref_to, Factor, number, negative, opposite, text, ref, parenthesis, Product, product, no_factor, Sum, sum, no_product}
use Rattle.bf_phrase.specs.Conditions.{LiteralRule}
use Rattle.bf_phrase.specs.Conditions as literal
use Rattle.bf_phrase.specs.Phrases.{NameRule, ExprRule, AggregateRule, SetRule, Enclosed}
use Rattle.bf_phrase.specs.Columns.{ColumnRuleRule, rule_of}
use Rattle.bf_phrase.proofs.Factors.{begins-append}
use Rattle.bf_phrase.proofs.Literals.{number_said}

-- ---- names, and what begins with one

starts_name : {A : Type 0} (G : List Step → A → Type 0) → ((n : List ℕ) → CanGoOn G (Say (word.Name n) ∷ [])) → (w : Word) → IsSayable w → is_name w ≡ true → (next : List Step) × (said next ≡ w ∷ []) × CanGoOn G next
starts_name G can (word.Keyword k) real e = absurd cc
starts_name G can (word.Name n) real e = (Say (word.Name n) ∷ [], refl, can n)
starts_name G can (word.Number n) real e = absurd cc
starts_name G can (word.Text t) real e = absurd cc
starts_name G can (word.Minus b) real e = absurd cc
starts_name G can (word.Sign s) real e = absurd cc

name_can : (n : List ℕ) → CanGoOn NameRule (Say (word.Name n) ∷ [])
name_can n = ([], n, (n, [], refl, (refl, refl)))

pub name_part : IsPart nothing is_name NameRule
name_part = record {
  opens = λ s b h. ap (λ (z : List Step). begins is_name (said z)) h.2;
  starts = starts_name NameRule name_can;
  some = let h = name_can [] in (Say (word.Name []) ∷ h.0, h.1, h.2);
  comma = refl;
  closing = refl;
}

ref_can : (n : List ℕ) → CanGoOn RefRule (Say (word.Name n) ∷ [])
ref_can n = ([], ref_to None n, (n, [], refl, inl (refl, refl)))

pub ref_part : IsPart is_point is_name RefRule
ref_part = record {
  opens = λ s b h. ap (λ (z : List Step). begins is_name (said z)) h.2;
  starts = starts_name RefRule ref_can;
  some = let h = ref_can [] in (Say (word.Name []) ∷ h.0, h.1, h.2);
  comma = refl;
  closing = refl;
}

column_can : (n : List ℕ) → CanGoOn ColumnRuleRule (Say (word.Name n) ∷ [])
column_can n =
    let int : List Step = Say (word.Keyword keyword.Int) ∷ [] in
    (int, rule_of n form.Int, (n, int, refl, (int, [], form.Int, refl, inl ([], refl, inl (refl, refl)), (refl, refl))))

pub column_part : IsPart is_check is_name ColumnRuleRule
column_part = record {
  opens = λ s b h. ap (λ (z : List Step). begins is_name (said z)) h.2;
  starts = starts_name ColumnRuleRule column_can;
  some = let h = column_can [] in (Say (word.Name []) ∷ h.0, h.1, h.2);
  comma = refl;
  closing = refl;
}

-- ---- expressions

sum_of_factor : {n : ℕ} {s : List Step} {x : Counted} → Factor n s x → Sum n s x
sum_of_factor {s = s} {x = x} f = sum s [] x (product s [] x f (no_factor refl refl) (sym (append-nil s))) (no_product refl refl) (sym (append-nil s))

pub text_expression : ExprRule (Say (word.Text []) ∷ []) (tree.literal (value.Text []))
text_expression = (0, sum_of_factor (text [] refl refl))

set_can : (n : List ℕ) → CanGoOn SetRule (Say (word.Name n) ∷ [])
set_can n =
    let behind : List Step = Say (word.Text []) ∷ [] in
    let rest : List Step = Say (word.Sign sign.Equal) ∷ Say (word.Text []) ∷ [] in
    (rest, (n, tree.literal (value.Text [])), (n, rest, refl, (behind, refl, (behind, [], tree.literal (value.Text []), refl, text_expression, (refl, refl)))))

pub set_part : IsPart follow_sum is_name SetRule
set_part = record {
  opens = λ s b h. ap (λ (z : List Step). begins is_name (said z)) h.2;
  starts = starts_name SetRule set_can;
  some = let h = set_can [] in (Say (word.Name []) ∷ h.0, h.1, h.2);
  comma = refl;
  closing = refl;
}

factor_opens : (n : ℕ) (s : List Step) (x : Counted) → Factor n s x → begins first_expression (said s) ≡ true
factor_opens n s x (number v h q) = ap (λ (z : List Word). begins first_expression z) (number_said s v h)
factor_opens n s x (negative v k p q) = ap (λ (z : List Step). begins first_expression (said z)) p
factor_opens n s x (opposite a m front f unnumbered p q) = ap (λ (z : List Step). begins first_expression (said z)) p
factor_opens n s x (text t p q) = ap (λ (z : List Step). begins first_expression (said z)) p
factor_opens n s x (ref r h q) = ap (λ (z : List Step). begins first_expression (said z)) h.2
factor_opens n s x (parenthesis inner h p) = ap (λ (z : List Step). begins first_expression (said z)) p

product_opens : (n : ℕ) (s : List Step) (x : Counted) → Product n s x → begins first_expression (said s) ≡ true
product_opens n s x (product front back a f m p) = ap (λ (z : List Step). begins first_expression (said z)) p ∙ begins-append first_expression front back (factor_opens n front a f)

sum_opens : (n : ℕ) (s : List Step) (x : Counted) → Sum n s x → begins first_expression (said s) ≡ true
sum_opens n s x (sum front back a f m p) = ap (λ (z : List Step). begins first_expression (said z)) p ∙ begins-append first_expression front back (product_opens n front a f)

number_starts : (v : ℕ) → v ≤ 2 ^ 63 → (next : List Step) × (said next ≡ word.Number v ∷ []) × NumberRule next v
number_starts v real = elim (cases_lt v (2 ^ 63)) [
  | inl low ↦ (Say (word.Number v) ∷ [], refl, narrow (omega arith) refl)
  | inr high ↦ (Limit Widest ∷ Say (word.Number v) ∷ [], refl, widest (omega arith) refl)
]

expression_starts : (w : Word) → IsSayable w → first_expression w ≡ true → (next : List Step) × (said next ≡ w ∷ []) × CanGoOn ExprRule next
expression_starts (word.Keyword k) real e = absurd cc
expression_starts (word.Name n) real e = (Say (word.Name n) ∷ [], refl, ([], tree.column (ref_to None n), (0, sum_of_factor (ref (ref_to None n) (n, [], refl, inl (refl, refl)) refl))))
expression_starts (word.Number v) real e =
    let h = number_starts v real in
    (h.0, h.1, ([], tree.literal (value.Int (pos v)), subst (λ (z : List Step). ExprRule z (tree.literal (value.Int (pos v)))) (sym (append-nil h.0)) (0, sum_of_factor (number v h.2 refl))))
expression_starts (word.Text t) real e = (Say (word.Text t) ∷ [], refl, ([], tree.literal (value.Text t), (0, sum_of_factor (text t refl refl))))
expression_starts (word.Minus true) real e = (Say (word.Minus true) ∷ [], refl, (Say (word.Number 0) ∷ [], _, (0, sum_of_factor (negative 0 (omega arith) refl refl))))
expression_starts (word.Minus false) real e =
    (Limit (Node 1) ∷ Say (word.Minus false) ∷ [], refl, (Say (word.Text []) ∷ [], tree.negated (tree.literal (value.Text [])), (1, sum_of_factor (opposite (tree.literal (value.Text [])) 1 (Say (word.Text []) ∷ []) (text [] refl refl) refl refl refl))))
expression_starts (word.Sign sign.OpeningParenthesis) real e =
    (Limit (Node 1) ∷ Say (word.Sign sign.OpeningParenthesis) ∷ [], refl, (Say (word.Text []) ∷ Say (word.Sign sign.ClosingParenthesis) ∷ [], tree.literal (value.Text []), (1, sum_of_factor (parenthesis (Say (word.Text []) ∷ []) (sum_of_factor (text [] refl refl)) refl))))
expression_starts (word.Sign other) real e = absurd cc

pub expression_part : IsPart follow_sum first_expression ExprRule
expression_part = record {
  opens = λ s b h. sum_opens 0 s (b, h.0) h.1;
  starts = expression_starts;
  some = (Say (word.Text []) ∷ [], tree.literal (value.Text []), text_expression);
  comma = refl;
  closing = refl;
}

-- ---- literals

constant_opens : (s : List Step) (b : Value) → LiteralRule s b → begins first_constant (said s) ≡ true
constant_opens s b (literal.signed (literal.number v h q)) = ap (λ (z : List Word). begins first_constant z) (number_said s v h)
constant_opens s b (literal.signed (literal.negative v flag k p q)) = ap (λ (z : List Step). begins first_constant (said z)) p
constant_opens s b (literal.text t p q) = ap (λ (z : List Step). begins first_constant (said z)) p

constant_starts : (w : Word) → IsSayable w → first_constant w ≡ true → (next : List Step) × (said next ≡ w ∷ []) × CanGoOn LiteralRule next
constant_starts (word.Keyword k) real e = absurd cc
constant_starts (word.Name n) real e = absurd cc
constant_starts (word.Number v) real e =
    let h = number_starts v real in
    (h.0, h.1, ([], value.Int (pos v), subst (λ (z : List Step). LiteralRule z (value.Int (pos v))) (sym (append-nil h.0)) (literal.signed (literal.number v h.2 refl))))
constant_starts (word.Text t) real e = (Say (word.Text t) ∷ [], refl, ([], value.Text t, literal.text t refl refl))
constant_starts (word.Minus flag) real e = (Say (word.Minus flag) ∷ [], refl, (Say (word.Number 0) ∷ [], _, literal.signed (literal.negative 0 flag (omega arith) refl refl)))
constant_starts (word.Sign s) real e = absurd cc

pub constant_part : IsPart nothing first_constant LiteralRule
constant_part = record {
  opens = constant_opens;
  starts = constant_starts;
  some = (Say (word.Text []) ∷ [], value.Text [], literal.text [] refl refl);
  comma = refl;
  closing = refl;
}

-- ---- aggregates

aggregate_opens : (s : List Step) (b : Aggregate (Expr Ref)) → AggregateRule s b → begins first_aggregate (said s) ≡ true
aggregate_opens s b (inl h) = ap (λ (z : List Step). begins first_aggregate (said z)) h.1
aggregate_opens s b (inr (inl h)) = ap (λ (z : List Step). begins first_aggregate (said z)) h.1
aggregate_opens s b (inr (inr (inl h))) = ap (λ (z : List Step). begins first_aggregate (said z)) h.1
aggregate_opens s b (inr (inr (inr h))) = ap (λ (z : List Step). begins first_aggregate (said z)) h.1

enclosed_can : (make : Expr Ref → Aggregate (Expr Ref)) → Enclosed ExprRule (λ e. Return (make e)) (Say (word.Sign sign.OpeningParenthesis) ∷ Say (word.Text []) ∷ Say (word.Sign sign.ClosingParenthesis) ∷ []) (make (tree.literal (value.Text [])))
enclosed_can make =
    (Say (word.Text []) ∷ Say (word.Sign sign.ClosingParenthesis) ∷ [], refl, (Say (word.Text []) ∷ [], Say (word.Sign sign.ClosingParenthesis) ∷ [], tree.literal (value.Text []), refl, text_expression, ([], refl, (refl, refl))))

count_can : CanGoOn AggregateRule (Say (word.Keyword keyword.Count) ∷ [])
count_can =
    let last : List Step = Say (word.Sign sign.ClosingParenthesis) ∷ [] in
    let behind : List Step = Say (word.Sign sign.Star) ∷ Say (word.Sign sign.ClosingParenthesis) ∷ [] in
    let rest : List Step = Say (word.Sign sign.OpeningParenthesis) ∷ Say (word.Sign sign.Star) ∷ Say (word.Sign sign.ClosingParenthesis) ∷ [] in
    (rest, aggregate.Count, inl (rest, refl, (behind, refl, (last, refl, ([], refl, (refl, refl))))))

aggregate_starts : (w : Word) → IsSayable w → first_aggregate w ≡ true → (next : List Step) × (said next ≡ w ∷ []) × CanGoOn AggregateRule next
aggregate_starts (word.Keyword keyword.Count) real e = (Say (word.Keyword keyword.Count) ∷ [], refl, count_can)
aggregate_starts (word.Keyword keyword.Sum) real e = (Say (word.Keyword keyword.Sum) ∷ [], refl, (_, aggregate.Sum (tree.literal (value.Text [])), inr (inl (_, refl, enclosed_can (λ x. aggregate.Sum x)))))
aggregate_starts (word.Keyword keyword.Min) real e = (Say (word.Keyword keyword.Min) ∷ [], refl, (_, aggregate.Min (tree.literal (value.Text [])), inr (inr (inl (_, refl, enclosed_can (λ x. aggregate.Min x))))))
aggregate_starts (word.Keyword keyword.Max) real e = (Say (word.Keyword keyword.Max) ∷ [], refl, (_, aggregate.Max (tree.literal (value.Text [])), inr (inr (inr (_, refl, enclosed_can (λ x. aggregate.Max x))))))
aggregate_starts other real e = absurd cc

pub aggregate_part : IsPart nothing first_aggregate AggregateRule
aggregate_part = record {
  opens = aggregate_opens;
  starts = aggregate_starts;
  some = let h = count_can in (Say (word.Keyword keyword.Count) ∷ h.0, h.1, h.2);
  comma = refl;
  closing = refl;
}
