use Rattle.std.proofs.Common.{List, Option, unwrap_or, sym, ap, ◌∙◌}
use Rattle.bf_base.specs.declared.value.Value.{Value}
use Rattle.bf_heap.specs.Heaps.{row_under}
use Rattle.bf_live.proofs.querying.Keyed.{row_under-entries_under}
use Rattle.bf_query.proofs.merge.row_at.Goals as goal

-- what is written to the key, and else the heap's row
pub returns-in-Some : goal.returns-in-Some
returns-in-Some c =
    sym (row_under-entries_under c.args.heap.now.entries c.args.workspace.now c.args.table.now c.args.key.now c.in-Some.ensures.sorted
    ∙ ap (λ (found : Option (Option (List Value))). unwrap_or found (row_under c.args.heap.now.entries c.args.key.now)) (sym c.in-Some.ensures.row))

pub returns-in-None : goal.returns-in-None
returns-in-None c =
    c.get.ensures
    ∙ sym (row_under-entries_under c.args.heap.now.entries c.args.workspace.now c.args.table.now c.args.key.now c.in-None.ensures.sorted
    ∙ ap (λ (found : Option (Option (List Value))). unwrap_or found (row_under c.args.heap.now.entries c.args.key.now)) (sym c.in-None.ensures.row))
