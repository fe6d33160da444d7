use Rattle.bf_base.specs.Tables.{cell}
use Rattle.bf_tree.specs.Evaluation.{value_of}
use Rattle.bf_tree.specs.ValueObjections.{value_objections}
use Rattle.bf_tree.proofs.Steps.{passes_on, stops}
use Rattle.bf_query.proofs.answer.values.Goals as goal

pub returns-in_err-value_or_refusal : goal.returns-in_err-value_or_refusal
returns-in_err-value_or_refusal c =
    passes_on _ _ _ _ _ (c.from_residual-in_err-value_or_refusal.ensures.1)
    (stops c.args.exprs.now c.loop-expr.expr-index c.expr-item.result c.loop-expr-test.true c.expr-item.is
    (λ expr. value_objections (value_of (cell c.args.row.now) expr)) _ _ c.loop-expr.invariant.none c.in_err-value_or_refusal.ensures)
