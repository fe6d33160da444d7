-- How refs and expressions are spelled as bytes, and which have a spelling: those that the types of the code hold.
use Rattle.std.specs.Prelude.{ℕ, ◌+◌, List, ◌∷◌, ◌++◌, Option, Some, None}
use Rattle.bf_tree.specs.declared.raw.Ref.{Ref}
use Rattle.bf_tree.specs.Trees.{Expr, literal, column, negated, plus, minus, times, joined}
use Rattle.bf_wire.specs.Spellings.{IsName, name_spelling, IsValue, value_spelling, IsPair, pair_spelling}

-- a column's name, behind its table's where that is told
abbrev pub IsQualified : Option (List ℕ) → List ℕ → Type 0
IsQualified None name = IsName name
IsQualified (Some table) name = IsName table × IsName name

abbrev pub qualified_spelling : Option (List ℕ) → List ℕ → List ℕ
qualified_spelling None name = 0 ∷ name_spelling name
qualified_spelling (Some table) name = 1 ∷ name_spelling table ++ name_spelling name

abbrev pub IsRef : Ref → Type 0
IsRef r = IsQualified r.table r.column

abbrev pub ref_spelling : Ref → List ℕ
ref_spelling r = qualified_spelling r.table r.column

-- the nodes beside values and refs
abbrev pub operators : Expr Ref → ℕ
operators (literal v) = 0
operators (column r) = 0
operators (negated a) = operators a + 1
operators (plus a b) = operators a + operators b + 1
operators (minus a b) = operators a + operators b + 1
operators (times a b) = operators a + operators b + 1
operators (joined a b) = operators a + operators b + 1

abbrev pub IsExpr : Expr Ref → Type 0
IsExpr (literal v) = IsValue v
IsExpr (column r) = IsRef r
IsExpr (negated a) = IsExpr a
IsExpr (plus a b) = IsExpr a × IsExpr b
IsExpr (minus a b) = IsExpr a × IsExpr b
IsExpr (times a b) = IsExpr a × IsExpr b
IsExpr (joined a b) = IsExpr a × IsExpr b

abbrev pub expr_spelling : Expr Ref → List ℕ
expr_spelling (literal v) = 1 ∷ value_spelling v
expr_spelling (column r) = 2 ∷ ref_spelling r
expr_spelling (negated a) = 3 ∷ expr_spelling a
expr_spelling (plus a b) = 4 ∷ expr_spelling a ++ expr_spelling b
expr_spelling (minus a b) = 5 ∷ expr_spelling a ++ expr_spelling b
expr_spelling (times a b) = 6 ∷ expr_spelling a ++ expr_spelling b
expr_spelling (joined a b) = 7 ∷ expr_spelling a ++ expr_spelling b

-- two expressions, one behind the other
abbrev pub AreExprs : Expr Ref × Expr Ref → Type 0
AreExprs pair = IsPair IsExpr IsExpr pair

abbrev pub exprs_spelling : Expr Ref × Expr Ref → List ℕ
exprs_spelling pair = pair_spelling expr_spelling expr_spelling pair

abbrev pub operators_of_both : Expr Ref × Expr Ref → ℕ
operators_of_both pair = operators pair.0 + operators pair.1
