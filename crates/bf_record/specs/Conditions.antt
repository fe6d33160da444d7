-- How conditions are spelled as bytes, and which have a spelling.
use Rattle.std.specs.Prelude.{ℕ, ◌+◌, List, [], ◌∷◌, ◌++◌}
use Rattle.bf_tree.specs.declared.compare.Compare.{Compare}
use Rattle.bf_tree.specs.declared.compare.Compare.TheVariants as compare
use Rattle.bf_tree.specs.declared.raw.Operand.{Operand}
use Rattle.bf_tree.specs.declared.raw.Ref.{Ref}
use Rattle.bf_tree.specs.Trees.{Expr, literal, column, Cond, always, compared, between, opposite, both, either, tests}
use Rattle.bf_tree.specs.Views.{operand_tree}
use Rattle.bf_wire.specs.Spellings.{IsValue, IsPair, pair_spelling}
use Rattle.bf_record.specs.Expressions.{IsRef, expr_spelling}

abbrev pub IsCompare : Compare → Type 0
IsCompare op = Unit {0}

abbrev pub compare_code : Compare → ℕ
compare_code compare.Equal = 1
compare_code compare.Unequal = 2
compare_code compare.Less = 3
compare_code compare.LessEqual = 4
compare_code compare.Greater = 5
compare_code compare.GreaterEqual = 6

abbrev pub compare_spelling : Compare → List ℕ
compare_spelling op = compare_code op ∷ []

-- a condition compares literals and columns
abbrev pub IsOperand : Expr Ref → Type 0
IsOperand (literal v) = IsValue v
IsOperand (column r) = IsRef r
IsOperand e = ⊥

-- an operand of the code is spelled as the expression that it is
abbrev pub IsRawOperand : Operand → Type 0
IsRawOperand a = IsOperand (operand_tree a)

abbrev pub operand_spelling : Operand → List ℕ
operand_spelling a = expr_spelling (operand_tree a)

abbrev pub IsCond : Cond Ref → Type 0
IsCond always = ⊥
IsCond (compared op a b) = IsOperand a × IsOperand b
IsCond (between a low high) = IsOperand a × IsOperand low × IsOperand high
IsCond (opposite c) = IsCond c
IsCond (both c d) = IsCond c × IsCond d
IsCond (either c d) = IsCond c × IsCond d

-- one that compares, and has no condition within
abbrev pub IsTest : Cond Ref → Type 0
IsTest (compared op a b) = IsOperand a × IsOperand b
IsTest (between a low high) = IsOperand a × IsOperand low × IsOperand high
IsTest c = ⊥

abbrev pub cond_spelling : Cond Ref → List ℕ
cond_spelling always = []
cond_spelling (compared op a b) = 1 ∷ compare_spelling op ++ expr_spelling a ++ expr_spelling b
cond_spelling (between a low high) = 2 ∷ expr_spelling a ++ expr_spelling low ++ expr_spelling high
cond_spelling (opposite c) = 3 ∷ cond_spelling c
cond_spelling (both c d) = 4 ∷ cond_spelling c ++ cond_spelling d
cond_spelling (either c d) = 5 ∷ cond_spelling c ++ cond_spelling d

-- two conditions, one behind the other
abbrev pub AreConds : Cond Ref × Cond Ref → Type 0
AreConds pair = IsPair IsCond IsCond pair

abbrev pub conds_spelling : Cond Ref × Cond Ref → List ℕ
conds_spelling pair = pair_spelling cond_spelling cond_spelling pair

abbrev pub tests_of_both : Cond Ref × Cond Ref → ℕ
tests_of_both pair = tests pair.0 + tests pair.1
