use Rattle.std.proofs.Common.{List, sym, ap, ◌∙◌, fold}
use Rattle.bf_query.specs.declared.change.Planned.{Planned}
use Rattle.bf_live.specs.Replies.{rows_for, written, writes_of}
use Rattle.bf_live.proofs.querying.Keeping.{writes_are_to}
use Rattle.bf_tree.specs.declared.reply.Refusal.{Refusal}
use Rattle.bf_txn.specs.Writes.{with_write, writes_in}
use Rattle.bf_txn.proofs.Tables.{gathered_alike}
use Rattle.bf_query.proofs.change.changes.Goals as goal

-- the writes of the plan make what those of the change make one after the other
pub returns-clause-workspace : goal.returns-clause-workspace
returns-clause-workspace c =
    let action = c.args.bound.now.action in
    let table = c.changed_table.result.now in
    let old = c.args.workspace.now in
    let writes = writes_of (rows_for c.args.heap.now.entries old action) action in
    c.in_ok-write_all.ensures.ok
    ∙ ap (λ (plan : Planned). fold with_write old (writes_in table.name plan.writes)) c.in-Ok.ensures.1
    ∙ gathered_alike table.name writes old c.write_all.ensures.sorted (writes_are_to (rows_for c.args.heap.now.entries old action) action table c.changed_table.ensures)
    ∙ sym (ap (λ (objections : List Refusal). written objections old writes) c.in-Ok.ensures.0)
