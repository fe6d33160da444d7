-- What joins two expressions.
use Rattle.std.specs.Prelude.{ℕ, List, ◌∷◌, Option, Some, None}
use Rattle.bf_tree.specs.declared.raw.Ref.{Ref}
use Rattle.bf_tree.specs.Trees.{Expr, plus, minus, times, joined}
use Rattle.bf_record.specs.declared.expressions.Operator.{Operator}
use Rattle.bf_record.specs.declared.expressions.Operator.TheVariants.{Plus, Minus, Times, Concatenation}

abbrev pub joined_by : Operator → Expr Ref → Expr Ref → Expr Ref
joined_by Plus a b = plus a b
joined_by Minus a b = minus a b
joined_by Times a b = times a b
joined_by Concatenation a b = joined a b

abbrev pub operator_code : Operator → ℕ
operator_code Plus = 4
operator_code Minus = 5
operator_code Times = 6
operator_code Concatenation = 7
