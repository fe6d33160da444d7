-- The conjuncts of a condition, and the value that they fix a column to.
use Rattle.std.specs.Prelude.{ℕ, Bool, false, ◌==◌, if◌then◌else◌, List, [], ◌∷◌, ◌++◌, slice_get, Option, Some, None}
use Rattle.std.specs.List.{filter_map}
use Rattle.bf_base.specs.declared.value.Value.{Value}
use Rattle.bf_tree.specs.declared.compare.Compare.TheVariants.{Equal}
use Rattle.bf_tree.specs.Trees.{Expr, literal, column, Cond, compared, both}

-- what an expression is
abbrev pub literal_of : Expr ℕ → Option Value
literal_of (literal v) = Some v
literal_of e = None

abbrev pub is_column_at : ℕ → Expr ℕ → Bool
is_column_at place (column at) = at == place
is_column_at place e = false

-- the conditions that AND joins, from the root down
abbrev pub conjuncts : {R : Type 0} → Cond R → List (Cond R)
conjuncts (both c d) = conjuncts c ++ conjuncts d
conjuncts c = c ∷ []

-- the value that a conjunct fixes a column at a place to: `column = literal` or `literal = column`
abbrev pub value_fixed : ℕ → Cond ℕ → Option Value
value_fixed place (compared Equal (column at) (literal v)) = if at == place then Some v else None
value_fixed place (compared Equal (literal v) (column at)) = if at == place then Some v else None
value_fixed place cond = None

-- the value that a condition fixes it to: the first conjunct that fixes it serves
abbrev pub column_fixed : ℕ → Cond ℕ → Option Value
column_fixed place cond = slice_get (filter_map (value_fixed place) (conjuncts cond)) 0
