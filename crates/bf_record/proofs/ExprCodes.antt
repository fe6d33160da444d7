-- What stands behind each code of an expression.
use Rattle.std.proofs.Common.{◌≡◌, ◌≢◌, ℕ, ◌+◌, ◌≤◌, List, [], ◌∷◌, ◌++◌, Option, Some, None, refl, arith}
use Rattle.bf_base.specs.declared.value.Value.{Value}
use Rattle.bf_tree.specs.declared.raw.Ref.{Ref}
use Rattle.bf_tree.specs.Trees.{Expr, literal, column, negated, plus, minus, times, joined}
use Rattle.bf_wire.specs.Spellings.{IsValue, value_spelling}
use Rattle.bf_wire.specs.Taking.{BeginWith, IsTakenFrom}
use Rattle.bf_wire.proofs.Parts.{taken_tagged, none_tagged}
use Rattle.bf_record.specs.declared.expressions.Operator.{Operator}
use Rattle.bf_record.specs.declared.expressions.Operator.TheVariants.{Plus, Minus, Times, Concatenation}
use Rattle.bf_record.specs.Expressions.{IsRef, ref_spelling, IsExpr, expr_spelling, operators, AreExprs, exprs_spelling, operators_of_both}
use Rattle.bf_record.specs.Operators.{joined_by, operator_code}
use Rattle.bf_record.specs.Within.{IsWithin, IsTakenWithin}

abbrev Within : ℕ → Expr Ref → Type 0
Within budget e = IsWithin IsExpr operators budget e

abbrev Taken : ℕ → List ℕ → Option (Expr Ref × ℕ × ℕ) → Type 0
Taken budget bytes found = IsTakenWithin IsExpr expr_spelling operators budget bytes found

abbrev TwoTaken : ℕ → List ℕ → Option ((Expr Ref × Expr Ref) × ℕ × ℕ) → Type 0
TwoTaken budget bytes found = IsTakenWithin AreExprs exprs_spelling operators_of_both budget bytes found

literal_only : (budget : ℕ) (e : Expr Ref) (rest xs : List ℕ) → Within budget e → 1 ∷ rest ≡ expr_spelling e ++ xs → (v : Value) × IsValue v × (expr_spelling e ≡ 1 ∷ value_spelling v)
literal_only budget (literal v) rest xs is same = (v, is.0, refl)
literal_only budget e rest xs is same = absurd cc

pub no_literal : (budget : ℕ) (rest : List ℕ) → IsTakenFrom IsValue value_spelling rest None → Taken budget (1 ∷ rest) None
no_literal budget rest none =
    none_tagged (Within budget) expr_spelling IsValue value_spelling (λ e xs is same. literal_only budget e rest xs is same) none

column_only : (budget : ℕ) (e : Expr Ref) (rest xs : List ℕ) → Within budget e → 2 ∷ rest ≡ expr_spelling e ++ xs → (r : Ref) × IsRef r × (expr_spelling e ≡ 2 ∷ ref_spelling r)
column_only budget (column r) rest xs is same = (r, is.0, refl)
column_only budget e rest xs is same = absurd cc

pub no_column : (budget : ℕ) (rest : List ℕ) → IsTakenFrom IsRef ref_spelling rest None → Taken budget (2 ∷ rest) None
no_column budget rest none =
    none_tagged (Within budget) expr_spelling IsRef ref_spelling (λ e xs is same. column_only budget e rest xs is same) none

-- ---- one node more

negated_only : (budget more : ℕ) (e : Expr Ref) (rest xs : List ℕ) → more ≡ budget + 1 → Within more e → 3 ∷ rest ≡ expr_spelling e ++ xs → (a : Expr Ref) × Within budget a × (expr_spelling e ≡ 3 ∷ expr_spelling a)
negated_only budget more (negated a) rest xs one is same = (a, (is.0, omega (arith, is.1)), refl)
negated_only budget more e rest xs one is same = absurd cc

pub no_negated : (budget more : ℕ) (rest : List ℕ) → more ≡ budget + 1 → Taken budget rest None → Taken more (3 ∷ rest) None
no_negated budget more rest one none =
    none_tagged (Within more) expr_spelling (Within budget) expr_spelling (λ e xs is same. negated_only budget more e rest xs one is same) none

joined_only : (op : Operator) (budget more : ℕ) (e : Expr Ref) (rest xs : List ℕ) → more ≡ budget + 1 → Within more e → operator_code op ∷ rest ≡ expr_spelling e ++ xs
    → (p : Expr Ref × Expr Ref) × IsWithin AreExprs operators_of_both budget p × (expr_spelling e ≡ operator_code op ∷ exprs_spelling p)
joined_only Plus budget more (plus a b) rest xs one is same = ((a, b), (is.0, omega (arith, is.1)), refl)
joined_only Minus budget more (minus a b) rest xs one is same = ((a, b), (is.0, omega (arith, is.1)), refl)
joined_only Times budget more (times a b) rest xs one is same = ((a, b), (is.0, omega (arith, is.1)), refl)
joined_only Concatenation budget more (joined a b) rest xs one is same = ((a, b), (is.0, omega (arith, is.1)), refl)
joined_only op budget more e rest xs one is same = absurd cc

pub no_joined : (op : Operator) (budget more : ℕ) (rest : List ℕ) → more ≡ budget + 1 → TwoTaken budget rest None → Taken more (operator_code op ∷ rest) None
no_joined op budget more rest one none =
    none_tagged (Within more) expr_spelling (IsWithin AreExprs operators_of_both budget) exprs_spelling (λ e xs is same. joined_only op budget more e rest xs one is same) none

-- no other code begins an expression
pub no_operator : (budget code : ℕ) (rest : List ℕ) → code ≢ 1 → code ≢ 2 → code ≢ 3 → ((op : Operator) → code ≢ operator_code op) → Taken budget (code ∷ rest) None
no_operator budget code rest n1 n2 n3 none (literal v) xs is same = n1 cc
no_operator budget code rest n1 n2 n3 none (column r) xs is same = n2 cc
no_operator budget code rest n1 n2 n3 none (negated a) xs is same = n3 cc
no_operator budget code rest n1 n2 n3 none (plus a b) xs is same = none Plus cc
no_operator budget code rest n1 n2 n3 none (minus a b) xs is same = none Minus cc
no_operator budget code rest n1 n2 n3 none (times a b) xs is same = none Times cc
no_operator budget code rest n1 n2 n3 none (joined a b) xs is same = none Concatenation cc

-- with no node left there are values and refs
pub none_left : (budget code : ℕ) (rest : List ℕ) → budget ≡ 0 → code ≢ 1 → code ≢ 2 → Taken budget (code ∷ rest) None
none_left budget code rest empty n1 n2 (literal v) xs is same = n1 cc
none_left budget code rest empty n1 n2 (column r) xs is same = n2 cc
none_left budget code rest empty n1 n2 (negated a) xs is same = absurd (omega (arith, is.1))
none_left budget code rest empty n1 n2 (plus a b) xs is same = absurd (omega (arith, is.1))
none_left budget code rest empty n1 n2 (minus a b) xs is same = absurd (omega (arith, is.1))
none_left budget code rest empty n1 n2 (times a b) xs is same = absurd (omega (arith, is.1))
none_left budget code rest empty n1 n2 (joined a b) xs is same = absurd (omega (arith, is.1))

pub none_of_nothing : (budget : ℕ) → Taken budget [] None
none_of_nothing budget (literal v) xs is same = cc
none_of_nothing budget (column r) xs is same = cc
none_of_nothing budget (negated a) xs is same = cc
none_of_nothing budget (plus a b) xs is same = cc
none_of_nothing budget (minus a b) xs is same = cc
none_of_nothing budget (times a b) xs is same = cc
none_of_nothing budget (joined a b) xs is same = cc
