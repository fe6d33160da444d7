use Rattle.std.proofs.Common.{◌≡◌, map, take}
use Rattle.bf_tree.specs.declared.reply.Cell.TheVariants as cells
use Rattle.bf_query.proofs.answer.columns.Given as goal

abbrev pub invariant-loop-value : goal.invariant-loop-value
invariant-loop-value l = l.cells.items ≡ map cells.Value (take l.value-index l.values)
