-- What statements make of a table's rows, which stand in key order. `read` gives a row's columns.
use Rattle.std.specs.Prelude.{ℕ, List, [], ◌∷◌, map, filter, fold, slice_set}
use Rattle.bf_base.specs.declared.value.Value.{Value}
use Rattle.bf_tree.specs.Trees.{Expr, Cond}
use Rattle.bf_tree.specs.Evaluation.{sure_value, holds_on}
use Rattle.bf_tree.specs.declared.items.Items.{Items}
use Rattle.bf_tree.specs.declared.items.Items.TheVariants.{All, Exprs, Aggregates}
use Rattle.bf_tree.specs.declared.reply.Cell.{Cell}
use Rattle.bf_tree.specs.declared.reply.Cell.TheVariants as cells
use Rattle.bf_tree.specs.Totals.{total_of}

module _ {R : Type 0} (read : List Value → R → Value) where
  -- the rows that satisfy a condition
  abbrev pub selected : Cond R → List (List Value) → List (List Value)
  selected cond rows = filter (λ row. holds_on (read row) cond) rows

  -- SELECT: all columns of each row, expressions on each row, or one row of totals
  abbrev pub answer_of : Items (Expr R) → List (List Value) → List (List Cell)
  answer_of All rows = map (λ row. map cells.Value row) rows
  answer_of (Exprs exprs) rows = map (λ row. map (λ e. cells.Value (sure_value (read row) e)) exprs) rows
  answer_of (Aggregates totals) rows = map (total_of read rows) totals ∷ []

  -- UPDATE: each set from the old row. `place` is that of a set's column
  abbrev pub changed : {C : Type 0} → (C → ℕ) → List (C × Expr R) → List Value → List Value
  changed place sets row = fold (λ new set. slice_set new (place set.0) (sure_value (read row) set.1)) row sets
