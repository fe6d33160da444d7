-- What stands behind each code of a condition.
use Rattle.std.proofs.Common.{◌≡◌, ◌≢◌, ℕ, ◌+◌, ◌≤◌, List, [], ◌∷◌, ◌++◌, get_or, Option, Some, None, refl, ap, arith}
use Rattle.bf_tree.specs.declared.compare.Compare.{Compare}
use Rattle.bf_tree.specs.declared.raw.Operand.{Operand}
use Rattle.bf_tree.specs.declared.raw.Operand.TheVariants as operand
use Rattle.bf_tree.specs.declared.raw.Ref.{Ref}
use Rattle.bf_tree.specs.Trees.{Expr, literal, column, negated, plus, minus, times, joined, Cond, always, compared, between, opposite, both, either, tests}
use Rattle.bf_tree.specs.Views.{operand_tree}
use Rattle.bf_wire.specs.Spellings.{IsPair, pair_spelling}
use Rattle.bf_wire.specs.Taking.{BeginWith, IsTakenFrom}
use Rattle.bf_wire.proofs.Parts.{taken_tagged, none_tagged, taken_as}
use Rattle.bf_record.specs.Conditions.{IsCompare, compare_spelling, IsOperand, IsRawOperand, operand_spelling, IsTest, IsCond, cond_spelling, AreConds, conds_spelling, tests_of_both}
use Rattle.bf_record.specs.Expressions.{expr_spelling}
use Rattle.bf_record.specs.Within.{IsWithin, IsTakenWithin}

abbrev AreCompared : (Compare × Operand) × Operand → Type 0
AreCompared p = IsPair (IsPair IsCompare IsRawOperand) IsRawOperand p

abbrev compared_spelling : (Compare × Operand) × Operand → List ℕ
compared_spelling p = pair_spelling (pair_spelling compare_spelling operand_spelling) operand_spelling p

abbrev AreThree : (Operand × Operand) × Operand → Type 0
AreThree p = IsPair (IsPair IsRawOperand IsRawOperand) IsRawOperand p

abbrev three_spelling : (Operand × Operand) × Operand → List ℕ
three_spelling p = pair_spelling (pair_spelling operand_spelling operand_spelling) operand_spelling p

-- an expression that is an operand, as the code has it
operand_of : (e : Expr Ref) → IsOperand e → (a : Operand) × IsRawOperand a × (expr_spelling e ≡ operand_spelling a)
operand_of (literal v) is = (operand.Value v, is, refl)
operand_of (column r) is = (operand.Column r, is, refl)
operand_of (negated a) is = absurd is
operand_of (plus a b) is = absurd is
operand_of (minus a b) is = absurd is
operand_of (times a b) is = absurd is
operand_of (joined a b) is = absurd is

compared_only : (c : Cond Ref) (rest xs : List ℕ) → IsTest c → 1 ∷ rest ≡ cond_spelling c ++ xs → (p : (Compare × Operand) × Operand) × AreCompared p × (cond_spelling c ≡ 1 ∷ compared_spelling p)
compared_only (compared op a b) rest xs is same =
    let left = operand_of a is.0 in
    let right = operand_of b is.1 in
    (((op, left.0), right.0), ((tt, left.1), right.1), λ i. 1 ∷ ((compare_spelling op ++ left.2 i) ++ right.2 i))
compared_only (between a b c) rest xs is same = absurd cc
compared_only always rest xs is same = absurd is
compared_only (opposite c) rest xs is same = absurd is
compared_only (both c d) rest xs is same = absurd is
compared_only (either c d) rest xs is same = absurd is

pub no_compared : (rest : List ℕ) → IsTakenFrom AreCompared compared_spelling rest None → IsTakenFrom IsTest cond_spelling (1 ∷ rest) None
no_compared rest none = none_tagged IsTest cond_spelling AreCompared compared_spelling (λ c xs is same. compared_only c rest xs is same) none

between_only : (c : Cond Ref) (rest xs : List ℕ) → IsTest c → 2 ∷ rest ≡ cond_spelling c ++ xs → (p : (Operand × Operand) × Operand) × AreThree p × (cond_spelling c ≡ 2 ∷ three_spelling p)
between_only (between a b c) rest xs is same =
    let first = operand_of a is.0 in
    let low = operand_of b is.1 in
    let high = operand_of c is.2 in
    (((first.0, low.0), high.0), ((first.1, low.1), high.1), λ i. 2 ∷ ((first.2 i ++ low.2 i) ++ high.2 i))
between_only (compared op a b) rest xs is same = absurd cc
between_only always rest xs is same = absurd is
between_only (opposite c) rest xs is same = absurd is
between_only (both c d) rest xs is same = absurd is
between_only (either c d) rest xs is same = absurd is

pub no_between : (rest : List ℕ) → IsTakenFrom AreThree three_spelling rest None → IsTakenFrom IsTest cond_spelling (2 ∷ rest) None
no_between rest none = none_tagged IsTest cond_spelling AreThree three_spelling (λ c xs is same. between_only c rest xs is same) none

-- no other code begins a comparison
pub no_test : (code : ℕ) (rest : List ℕ) → code ≢ 1 → code ≢ 2 → IsTakenFrom IsTest cond_spelling (code ∷ rest) None
no_test code rest n1 n2 (compared op a b) xs is same = n1 cc
no_test code rest n1 n2 (between a b c) xs is same = n2 cc
no_test code rest n1 n2 always xs is same = is
no_test code rest n1 n2 (opposite c) xs is same = is
no_test code rest n1 n2 (both c d) xs is same = is
no_test code rest n1 n2 (either c d) xs is same = is

-- ---- conditions within a budget of nodes

abbrev Within : ℕ → Cond Ref → Type 0
Within budget c = IsWithin IsCond tests budget c

abbrev Taken : ℕ → List ℕ → Option (Cond Ref × ℕ × ℕ) → Type 0
Taken budget bytes found = IsTakenWithin IsCond cond_spelling tests budget bytes found

abbrev TwoTaken : ℕ → List ℕ → Option ((Cond Ref × Cond Ref) × ℕ × ℕ) → Type 0
TwoTaken budget bytes found = IsTakenWithin AreConds conds_spelling tests_of_both budget bytes found

opposite_only : (budget more : ℕ) (c : Cond Ref) (rest xs : List ℕ) → more ≡ budget + 1 → Within more c → 3 ∷ rest ≡ cond_spelling c ++ xs → (d : Cond Ref) × Within budget d × (cond_spelling c ≡ 3 ∷ cond_spelling d)
opposite_only budget more (opposite c) rest xs one is same = (c, (is.0, omega (arith, is.1)), refl)
opposite_only budget more always rest xs one is same = absurd is.0
opposite_only budget more c rest xs one is same = absurd cc

pub no_opposite : (budget more : ℕ) (rest : List ℕ) → more ≡ budget + 1 → Taken budget rest None → Taken more (3 ∷ rest) None
no_opposite budget more rest one none =
    none_tagged (Within more) cond_spelling (Within budget) cond_spelling (λ c xs is same. opposite_only budget more c rest xs one is same) none

both_only : (budget more : ℕ) (c : Cond Ref) (rest xs : List ℕ) → more ≡ budget + 1 → Within more c → 4 ∷ rest ≡ cond_spelling c ++ xs
    → (p : Cond Ref × Cond Ref) × IsWithin AreConds tests_of_both budget p × (cond_spelling c ≡ 4 ∷ conds_spelling p)
both_only budget more (both c d) rest xs one is same = ((c, d), (is.0, omega (arith, is.1)), refl)
both_only budget more always rest xs one is same = absurd is.0
both_only budget more c rest xs one is same = absurd cc

pub no_both : (budget more : ℕ) (rest : List ℕ) → more ≡ budget + 1 → TwoTaken budget rest None → Taken more (4 ∷ rest) None
no_both budget more rest one none =
    none_tagged (Within more) cond_spelling (IsWithin AreConds tests_of_both budget) conds_spelling (λ c xs is same. both_only budget more c rest xs one is same) none

either_only : (budget more : ℕ) (c : Cond Ref) (rest xs : List ℕ) → more ≡ budget + 1 → Within more c → 5 ∷ rest ≡ cond_spelling c ++ xs
    → (p : Cond Ref × Cond Ref) × IsWithin AreConds tests_of_both budget p × (cond_spelling c ≡ 5 ∷ conds_spelling p)
either_only budget more (either c d) rest xs one is same = ((c, d), (is.0, omega (arith, is.1)), refl)
either_only budget more always rest xs one is same = absurd is.0
either_only budget more c rest xs one is same = absurd cc

pub no_either : (budget more : ℕ) (rest : List ℕ) → more ≡ budget + 1 → TwoTaken budget rest None → Taken more (5 ∷ rest) None
no_either budget more rest one none =
    none_tagged (Within more) cond_spelling (IsWithin AreConds tests_of_both budget) conds_spelling (λ c xs is same. either_only budget more c rest xs one is same) none

-- each condition has a node
pub none_left : (budget : ℕ) (bytes : List ℕ) → budget ≡ 0 → Taken budget bytes None
none_left budget bytes empty always xs is same = is.0
none_left budget bytes empty (compared op a b) xs is same = absurd (omega (arith, is.1))
none_left budget bytes empty (between a b c) xs is same = absurd (omega (arith, is.1))
none_left budget bytes empty (opposite c) xs is same = absurd (omega (arith, is.1))
none_left budget bytes empty (both c d) xs is same = absurd (omega (arith, is.1))
none_left budget bytes empty (either c d) xs is same = absurd (omega (arith, is.1))

pub none_of_nothing : (budget : ℕ) → Taken budget [] None
none_of_nothing budget always xs is same = is.0
none_of_nothing budget (compared op a b) xs is same = cc
none_of_nothing budget (between a b c) xs is same = cc
none_of_nothing budget (opposite c) xs is same = cc
none_of_nothing budget (both c d) xs is same = cc
none_of_nothing budget (either c d) xs is same = cc
