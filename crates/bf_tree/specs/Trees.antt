-- Expressions and conditions. R is what stands for a column: a ref as it is written, or a place in the row.
use Rattle.std.specs.Prelude.{ℕ, ◌+◌}
use Rattle.bf_base.specs.declared.value.Value.{Value}
use Rattle.bf_tree.specs.declared.compare.Compare.{Compare}

pub data Expr (R : Type 0) : Type 0 where
  literal : Value → Expr R
  column : R → Expr R
  negated : Expr R → Expr R
  plus minus times joined : Expr R → Expr R → Expr R

pub data Cond (R : Type 0) : Type 0 where
  always : Cond R
  compared : Compare → Expr R → Expr R → Cond R
  between : Expr R → Expr R → Expr R → Cond R
  opposite : Cond R → Cond R
  both either : Cond R → Cond R → Cond R

module _ {R : Type 0} where
  abbrev pub nodes : Expr R → ℕ
  nodes (literal v) = 1
  nodes (column r) = 1
  nodes (negated a) = nodes a + 1
  nodes (plus a b) = nodes a + nodes b + 1
  nodes (minus a b) = nodes a + nodes b + 1
  nodes (times a b) = nodes a + nodes b + 1
  nodes (joined a b) = nodes a + nodes b + 1

  abbrev pub tests : Cond R → ℕ
  tests always = 1
  tests (compared op a b) = 1
  tests (between a b c) = 1
  tests (opposite c) = tests c + 1
  tests (both c d) = tests c + tests d + 1
  tests (either c d) = tests c + tests d + 1

module _ {R S : Type 0} (to : R → S) where
  -- the same expression over other columns
  abbrev pub expr_over : Expr R → Expr S
  expr_over (literal v) = literal v
  expr_over (column r) = column (to r)
  expr_over (negated a) = negated (expr_over a)
  expr_over (plus a b) = plus (expr_over a) (expr_over b)
  expr_over (minus a b) = minus (expr_over a) (expr_over b)
  expr_over (times a b) = times (expr_over a) (expr_over b)
  expr_over (joined a b) = joined (expr_over a) (expr_over b)

  -- the same condition over other columns
  abbrev pub cond_over : Cond R → Cond S
  cond_over always = always
  cond_over (compared op a b) = compared op (expr_over a) (expr_over b)
  cond_over (between a b c) = between (expr_over a) (expr_over b) (expr_over c)
  cond_over (opposite c) = opposite (cond_over c)
  cond_over (both c d) = both (cond_over c) (cond_over d)
  cond_over (either c d) = either (cond_over c) (cond_over d)
