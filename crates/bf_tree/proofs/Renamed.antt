-- A value over other columns.
use Rattle.std.proofs.Common.{◌≡◌, refl}
use Rattle.bf_base.specs.declared.value.Value.{Value}
use Rattle.bf_tree.specs.Trees.{Expr, literal, column, negated, plus, minus, times, joined, expr_over, Cond, always, compared, between, opposite, both, either, cond_over}
use Rattle.bf_tree.specs.Evaluation.{value_of, holds_on}

module _ {R S : Type 0} (read : S → Value) (to : R → S) where
  pub value_of-expr_over : (e : Expr R) → value_of read (expr_over to e) ≡ value_of (λ r. read (to r)) e
  value_of-expr_over (literal v) = refl
  value_of-expr_over (column r) = refl
  value_of-expr_over (negated a) = rw (value_of-expr_over a)
  value_of-expr_over (plus a b) = rw (value_of-expr_over a, value_of-expr_over b)
  value_of-expr_over (minus a b) = rw (value_of-expr_over a, value_of-expr_over b)
  value_of-expr_over (times a b) = rw (value_of-expr_over a, value_of-expr_over b)
  value_of-expr_over (joined a b) = rw (value_of-expr_over a, value_of-expr_over b)

  pub holds_on-cond_over : (c : Cond R) → holds_on read (cond_over to c) ≡ holds_on (λ r. read (to r)) c
  holds_on-cond_over always = refl
  holds_on-cond_over (compared op a b) = rw (value_of-expr_over a, value_of-expr_over b)
  holds_on-cond_over (between a b c) = rw (value_of-expr_over a, value_of-expr_over b, value_of-expr_over c)
  holds_on-cond_over (opposite c) = rw (holds_on-cond_over c)
  holds_on-cond_over (both c d) = rw (holds_on-cond_over c, holds_on-cond_over d)
  holds_on-cond_over (either c d) = rw (holds_on-cond_over c, holds_on-cond_over d)
