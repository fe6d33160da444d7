-- Totals of the rows so far.
use Rattle.std.specs.Prelude.{ℕ, zero, suc, ◌+◌, ◌<◌, ◌^◌, ℤ, pos, ◌+ℤ◌, not, List, [], length, Option, Some, None}
use Rattle.std.specs.List.{reduce}
use Rattle.bf_base.specs.declared.value.Value.{Value}
use Rattle.bf_base.specs.declared.value.Value.TheVariants.{Int}
use Rattle.bf_base.specs.Lists.{when}
use Rattle.bf_base.specs.Tables.{cell}
use Rattle.bf_base.specs.Limits.{is_int}
use Rattle.bf_tree.specs.Trees.{Expr}
use Rattle.bf_tree.specs.Evaluation.{value_of, sure_value, number_of}
use Rattle.bf_tree.specs.declared.items.Aggregate.{Aggregate}
use Rattle.bf_tree.specs.declared.items.Aggregate.TheVariants as total
use Rattle.bf_tree.specs.declared.reply.Cell.{Cell}
use Rattle.bf_tree.specs.declared.reply.Cell.TheVariants as cells
use Rattle.bf_tree.specs.declared.reply.Refusal.{Refusal}
use Rattle.bf_tree.specs.declared.reply.Refusal.TheVariants.{OutOfRange}
use Rattle.bf_tree.specs.ValueObjections.{value_objections}
use Rattle.bf_tree.specs.Totals.{lesser, greater, or_null, exact_sum, values_of}
use Rattle.bf_totals.specs.declared.running.Running.{Running}
use Rattle.bf_totals.specs.declared.running.Running.TheVariants.{Count, Sum, Least, Greatest}

-- a total of the rows so far: with how many numbers a sum has, and the value that is the least or the greatest yet
pub data RunningTotal : Type 0 where
  counted : ℕ → RunningTotal
  summed : Expr ℕ → ℤ → ℕ → RunningTotal
  least greatest : Expr ℕ → Option Value → RunningTotal

abbrev pub running_total : Running → RunningTotal
running_total (Count rows) = counted rows
running_total (Sum e s) = summed e.now s.sum s.count
running_total (Least e v) = least e.now v
running_total (Greatest e v) = greatest e.now v

-- where a total stands after some rows
abbrev pub running_total_after : List (List Value) → Aggregate (Expr ℕ) → RunningTotal
running_total_after rows total.Count = counted (length rows)
running_total_after rows (total.Sum e) = summed e (exact_sum (values_of cell rows e)) (length rows)
running_total_after rows (total.Min e) = least e (reduce lesser (values_of cell rows e))
running_total_after rows (total.Max e) = greatest e (reduce greater (values_of cell rows e))

abbrev pub picked : (Value → Value → Value) → Option Value → Value → Value
picked pick None v = v
picked pick (Some w) v = pick w v

-- a total with one more row
abbrev pub advanced : List Value → RunningTotal → RunningTotal
advanced row (counted n) = counted (n + 1)
advanced row (summed e sum n) = summed e (sum +ℤ number_of (sure_value (cell row) e)) (n + 1)
advanced row (least e v) = least e (Some (picked lesser v (sure_value (cell row) e)))
advanced row (greatest e v) = greatest e (Some (picked greater v (sure_value (cell row) e)))

-- what a row has against that
abbrev pub row_objections : List Value → RunningTotal → List Refusal
row_objections row (counted n) = []
row_objections row (summed e sum n) = value_objections (value_of (cell row) e)
row_objections row (least e v) = value_objections (value_of (cell row) e)
row_objections row (greatest e v) = value_objections (value_of (cell row) e)

-- what stands in the way of a total in the end
abbrev pub end_objections : RunningTotal → List Refusal
end_objections (counted n) = []
end_objections (summed e sum n) = when (not (is_int sum)) OutOfRange
end_objections (least e v) = []
end_objections (greatest e v) = []

-- a total in the end
abbrev pub total_cell : RunningTotal → Cell
total_cell (counted n) = cells.Value (Int (pos n))
total_cell (summed e sum zero) = cells.Null
total_cell (summed e sum (suc n)) = cells.Value (Int sum)
total_cell (least e v) = or_null v
total_cell (greatest e v) = or_null v

-- fewer rows than an INT can count
abbrev pub IsCountable : RunningTotal → Type 0
IsCountable (counted n) = n < 2 ^ 63
IsCountable (summed e sum n) = n < 2 ^ 63
IsCountable (least e v) = Unit {0}
IsCountable (greatest e v) = Unit {0}
