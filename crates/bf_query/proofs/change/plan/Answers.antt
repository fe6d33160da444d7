use Rattle.std.proofs.Common.{ap, ◌∙◌, Bor, map}
use Rattle.bf_base.specs.declared.row.Row.{Row}
use Rattle.bf_live.specs.Merged.{StandUnderOwnKeys}
use Rattle.bf_live.proofs.querying.OwnKeys.{selected_within}
use Rattle.bf_query.proofs.change.plan.Goals as goal

pub plan_update-requires : goal.plan_update-requires
plan_update-requires c =
    let stand : StandUnderOwnKeys c.in-Update.table c.args.heap.now.entries c.args.workspace.now = rw c.in-Update.is at c.requires.keys in
    selected_within c.in-Update.table c.in-Update.cond c.args.heap.now.entries c.args.workspace.now _ stand (ap (map (λ (row : Bor Row). row.now)) c.as_slice-in-Update.ensures.value ∙ c.in_ok-rows-in-Update.ensures)

pub plan_delete-requires : goal.plan_delete-requires
plan_delete-requires c =
    let stand : StandUnderOwnKeys c.in-Delete.table c.args.heap.now.entries c.args.workspace.now = rw c.in-Delete.is at c.requires.keys in
    selected_within c.in-Delete.table c.in-Delete.cond c.args.heap.now.entries c.args.workspace.now _ stand (ap (map (λ (row : Bor Row). row.now)) c.as_slice-in-Delete.ensures.value ∙ c.in_ok-rows-in-Delete.ensures)
