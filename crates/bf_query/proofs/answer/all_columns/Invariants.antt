use Rattle.std.proofs.Common.{◌≡◌, map, take}
use Rattle.bf_tree.specs.declared.reply.Cell.TheVariants as cells
use Rattle.bf_query.proofs.answer.all_columns.Given as goal

abbrev pub invariant-loop-row : goal.invariant-loop-row
invariant-loop-row l = l.given.items ≡ map (λ row. map cells.Value row.now) (take l.row-index l.rows)
