use Rattle.std.proofs.Common.{◌≡◌, refl, ap}
use Rattle.bf_base.specs.declared.table.Admit.{Admit}
use Rattle.bf_base.specs.declared.value.Value.TheVariants.{Int, Text}
use Rattle.bf_tree.specs.Trees.{Expr, literal, column, negated, plus, minus, times, joined, expr_over}
use Rattle.bf_tree.specs.declared.items.Aggregate.{Aggregate}
use Rattle.bf_tree.specs.declared.items.Aggregate.TheVariants.{Count, Sum, Min, Max}
use Rattle.bf_sql.specs.Bound.{total_over}
use Rattle.bf_sql.specs.migrations.Extents.{extent_negated, extent_summed, extent_of, extent_of_total}
use Rattle.bf_sql.proofs.extent_laws.binding_keeps_extents.Goals as goal

module _ {R S : Type 0} (to : R → S) (admitted : S → Admit) where
  of_expr : (e : Expr R) → extent_of admitted (expr_over to e) ≡ extent_of (λ r. admitted (to r)) e
  of_expr (literal (Int n)) = refl
  of_expr (literal (Text t)) = refl
  of_expr (column r) = refl
  of_expr (negated a) = ap extent_negated (of_expr a)
  of_expr (plus a b) = let left = of_expr a in let right = of_expr b in cc
  of_expr (minus a b) = let left = of_expr a in let right = of_expr b in cc
  of_expr (times a b) = let left = of_expr a in let right = of_expr b in cc
  of_expr (joined a b) = let left = of_expr a in let right = of_expr b in cc

  of_total : (t : Aggregate (Expr R)) → extent_of_total admitted (total_over to t) ≡ extent_of_total (λ r. admitted (to r)) t
  of_total Count = refl
  of_total (Sum e) = ap extent_summed (of_expr e)
  of_total (Min e) = of_expr e
  of_total (Max e) = of_expr e

pub returns-clause-expression : goal.returns-clause-expression
returns-clause-expression g c = λ to admitted e. of_expr to admitted e

pub returns-clause-total : goal.returns-clause-total
returns-clause-total g c = λ to admitted t. of_total to admitted t
