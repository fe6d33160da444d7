-- What stands in the way of values that are computed on rows, and of totals over them, in order. The first objection is told.
use Rattle.std.specs.Prelude.{not, List, [], ◌∷◌, ◌++◌, flat_map, Result, Ok, Err}
use Rattle.bf_base.specs.declared.value.Value.{Value}
use Rattle.bf_base.specs.Lists.{when}
use Rattle.bf_base.specs.Limits.{is_int}
use Rattle.bf_tree.specs.declared.evaluation.Fail.{Fail}
use Rattle.bf_tree.specs.declared.evaluation.Fail.TheVariants as fail
use Rattle.bf_tree.specs.declared.items.Aggregate.{Aggregate}
use Rattle.bf_tree.specs.declared.items.Aggregate.TheVariants.{Count, Sum, Min, Max}
use Rattle.bf_tree.specs.declared.items.Items.{Items}
use Rattle.bf_tree.specs.declared.items.Items.TheVariants.{All, Exprs, Aggregates}
use Rattle.bf_tree.specs.declared.reply.Refusal.{Refusal}
use Rattle.bf_tree.specs.declared.reply.Refusal.TheVariants.{OutOfRange, TooLong}
use Rattle.bf_tree.specs.Evaluation.{value_of}
use Rattle.bf_tree.specs.Totals.{values_of, exact_sum}
use Rattle.bf_tree.specs.Trees.{Expr}

-- an expression that has no value
abbrev pub value_objections : Result Value Fail → List Refusal
value_objections (Ok v) = []
value_objections (Err fail.OutOfRange) = OutOfRange ∷ []
value_objections (Err fail.TooLong) = TooLong ∷ []
value_objections (Err fail.Memory) = []

module _ {R : Type 0} (read : List Value → R → Value) where
  -- a total's argument on one row
  abbrev pub argument_objections : List Value → Aggregate (Expr R) → List Refusal
  argument_objections row Count = []
  argument_objections row (Sum e) = value_objections (value_of (read row) e)
  argument_objections row (Min e) = value_objections (value_of (read row) e)
  argument_objections row (Max e) = value_objections (value_of (read row) e)

  -- a sum that no INT can be
  abbrev pub sum_objections : List (List Value) → Aggregate (Expr R) → List Refusal
  sum_objections rows Count = []
  sum_objections rows (Sum e) = when (not (is_int (exact_sum (values_of read rows e)))) OutOfRange
  sum_objections rows (Min e) = []
  sum_objections rows (Max e) = []

  -- SELECT: items from the left on each row, and sums after all rows
  abbrev pub answer_objections : Items (Expr R) → List (List Value) → List Refusal
  answer_objections All rows = []
  answer_objections (Exprs exprs) rows = flat_map (λ row. flat_map (λ e. value_objections (value_of (read row) e)) exprs) rows
  answer_objections (Aggregates totals) rows = flat_map (λ row. flat_map (argument_objections row) totals) rows ++ flat_map (sum_objections rows) totals
