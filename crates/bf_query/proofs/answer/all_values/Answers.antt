use Rattle.std.proofs.Common.{map, ◌∙◌}
use Rattle.std.specs.List.{flat_map}
use Rattle.std.proofs.lemmas.List.Folds.{flat_map-map}
use Rattle.bf_base.specs.Tables.{cell}
use Rattle.bf_tree.specs.Evaluation.{sure_value, value_of}
use Rattle.bf_tree.specs.ValueObjections.{value_objections}
use Rattle.bf_tree.specs.declared.reply.Cell.TheVariants as cells
use Rattle.bf_tree.proofs.Steps.{passes_on, stops, goes_on, gives_on, all_passed, all_given}
use Rattle.bf_query.proofs.answer.all_values.Goals as goal

pub returns-in_err-values : goal.returns-in_err-values
returns-in_err-values c =
    rw flat_map-map
    (passes_on _ _ _ _ _ (c.from_residual-in_err-values.ensures.1)
    (stops c.args.rows.now c.loop-row.row-index c.row-item.result c.loop-row-test.true c.row-item.is
    (λ row. flat_map (λ expr. value_objections (value_of (cell row.now) expr)) c.args.exprs.now) _ _ c.loop-row.invariant.none c.in_err-values.ensures))

pub loop-row-preserved : goal.loop-row-preserved
loop-row-preserved c = record {
  given =
      gives_on c.args.rows.now c.loop-row.row-index c.row-item.result c.loop-row-test.true c.row-item.is
      (λ row. map (λ expr. cells.Value (sure_value (cell row.now) expr)) c.args.exprs.now) c.loop-row.given.items c.push.new.self.items _ c.loop-row.invariant.given c.in_ok-values.ensures.1 c.in_ok-push.ensures.items;
  none =
      goes_on c.args.rows.now c.loop-row.row-index c.row-item.result c.loop-row-test.true c.row-item.is
      (λ row. flat_map (λ expr. value_objections (value_of (cell row.now) expr)) c.args.exprs.now) c.loop-row.invariant.none c.in_ok-values.ensures.0;
}

pub returns : goal.returns
returns c = (
  all_passed (λ row. row.now) c.args.rows.now c.loop-row.row-index c.loop-row-test.false
      (λ row. flat_map (λ expr. value_objections (value_of (cell row) expr)) c.args.exprs.now) c.loop-row.invariant.none,
  c.of.ensures ∙ all_given (λ row. row.now) c.args.rows.now c.loop-row.row-index c.loop-row-test.false
      (λ row. map (λ expr. cells.Value (sure_value (cell row) expr)) c.args.exprs.now) c.loop-row.given.items c.loop-row.invariant.given,
)
