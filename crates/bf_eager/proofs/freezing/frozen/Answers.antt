-- A table of a database can be copied row by row.
use Rattle.std.proofs.Common.{ap, ◌∙◌}
use Rattle.bf_heap.specs.Heaps.{Rows}
use Rattle.bf_eager.proofs.Copying.{can_differ, can_within, copied_again}
use Rattle.bf_eager.proofs.freezing.frozen.Goals as goal

pub heap_of-requires-clause-within : goal.heap_of-requires-clause-within
heap_of-requires-clause-within c = can_within c.args.table.now c.args.heap.now.entries c.requires c.in_ok-rows.rows.items c.in_ok-rows.ensures

pub heap_of-requires-clause-keys : goal.heap_of-requires-clause-keys
heap_of-requires-clause-keys c = can_differ c.args.table.now c.args.heap.now.entries c.requires c.in_ok-rows.rows.items c.in_ok-rows.ensures

pub returns-in-Ok-clause-rows : goal.returns-in-Ok-clause-rows
returns-in-Ok-clause-rows c = c.in-Ok.ensures.ok ∙ ap (λ (h : Rows). h.entries) c.of-indexed.ensures ∙ (c.in_ok-heap.ensures ∙ copied_again c.args.table.now c.args.heap.now.entries c.requires c.in_ok-rows.rows.items c.in_ok-rows.ensures)
