use Rattle.std.proofs.Common.{◌≡◌, [], map, take}
use Rattle.std.specs.List.{flat_map}
use Rattle.bf_base.specs.Tables.{cell}
use Rattle.bf_tree.specs.Evaluation.{sure_value, value_of}
use Rattle.bf_tree.specs.ValueObjections.{value_objections}
use Rattle.bf_tree.specs.declared.reply.Cell.TheVariants as cells
use Rattle.bf_query.proofs.answer.all_values.Given as goal

abbrev pub invariant-loop-row : goal.invariant-loop-row
invariant-loop-row l = record {
  given : l.given.items ≡ map (λ row. map (λ expr. cells.Value (sure_value (cell row.now) expr)) l.exprs) (take l.row-index l.rows);
  none : flat_map (λ row. flat_map (λ expr. value_objections (value_of (cell row.now) expr)) l.exprs) (take l.row-index l.rows) ≡ [];
}
