-- Totals over a list of rows.
use Rattle.std.specs.Prelude.{ℤ, pos, ◌+ℤ◌, List, [], ◌∷◌, map, length, fold, Option, Some, None, if◌then◌else◌}
use Rattle.std.specs.List.{reduce}
use Rattle.std.specs.Ordering.{is_lt}
use Rattle.bf_base.specs.declared.value.Value.{Value}
use Rattle.bf_base.specs.declared.value.Value.TheVariants.{Int}
use Rattle.bf_base.specs.Values.{value_cmp}
use Rattle.bf_tree.specs.Trees.{Expr}
use Rattle.bf_tree.specs.Evaluation.{sure_value, number_of}
use Rattle.bf_tree.specs.declared.items.Aggregate.{Aggregate}
use Rattle.bf_tree.specs.declared.items.Aggregate.TheVariants.{Count, Sum, Min, Max}
use Rattle.bf_tree.specs.declared.reply.Cell.{Cell}
use Rattle.bf_tree.specs.declared.reply.Cell.TheVariants as cells

abbrev pub lesser : Value → Value → Value
lesser a b = if is_lt (value_cmp b a) then b else a

abbrev pub greater : Value → Value → Value
greater a b = if is_lt (value_cmp a b) then b else a

abbrev pub or_null : Option Value → Cell
or_null None = cells.Null
or_null (Some v) = cells.Value v

abbrev pub exact_sum : List Value → ℤ
exact_sum values = fold (λ sum v. sum +ℤ number_of v) (pos 0) values

-- the sum as a value, where there is any value
abbrev pub sum_of : List Value → Option Value
sum_of [] = None
sum_of (v ∷ vs) = Some (Int (exact_sum (v ∷ vs)))

module _ {R Row : Type 0} (read : Row → R → Value) (rows : List Row) where
  -- an expression's values on the rows
  abbrev pub values_of : Expr R → List Value
  values_of e = map (λ row. sure_value (read row) e) rows

  -- COUNT is the number of rows; of no rows, SUM, MIN and MAX are NULL
  abbrev pub total_of : Aggregate (Expr R) → Cell
  total_of Count = cells.Value (Int (pos (length rows)))
  total_of (Sum e) = or_null (sum_of (values_of e))
  total_of (Min e) = or_null (reduce lesser (values_of e))
  total_of (Max e) = or_null (reduce greater (values_of e))
