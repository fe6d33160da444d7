use Rattle.std.proofs.Common.{map, ◌∙◌}
use Rattle.bf_tree.specs.declared.reply.Cell.TheVariants as cells
use Rattle.bf_tree.proofs.Steps.{all_given}
use Rattle.bf_query.proofs.answer.all_columns.Goals as goal

pub returns : goal.returns
returns c = c.of.ensures ∙ all_given (λ row. row.now) c.args.rows.now c.loop-row.row-index c.loop-row-test.false (map cells.Value) c.loop-row.given.items c.loop-row.invariant
