use Rattle.std.proofs.Common.{◌≡◌, [], map, take}
use Rattle.std.specs.List.{flat_map}
use Rattle.bf_base.specs.Tables.{cell}
use Rattle.bf_tree.specs.Evaluation.{sure_value, value_of}
use Rattle.bf_tree.specs.ValueObjections.{value_objections}
use Rattle.bf_tree.specs.declared.reply.Cell.TheVariants as cells
use Rattle.bf_query.proofs.answer.values.Given as goal

abbrev pub invariant-loop-expr : goal.invariant-loop-expr
invariant-loop-expr l = record {
  given : l.cells.items ≡ map (λ expr. cells.Value (sure_value (cell l.row) expr)) (take l.expr-index l.exprs);
  none : flat_map (λ expr. value_objections (value_of (cell l.row) expr)) (take l.expr-index l.exprs) ≡ [];
}
