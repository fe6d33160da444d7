use Rattle.std.proofs.Common.{sym, subst}
use Rattle.bf_base.specs.declared.table.Table.{Table}
use Rattle.bf_record.specs.declared.change.Change.TheVariants.{Flip, Schema}
use Rattle.bf_record.specs.declared.schema.SchemaChange.TheVariants as schema
use Rattle.bf_tree.specs.declared.catalog.IndexRule.{IndexRule}
use Rattle.bf_tree.specs.declared.migration.Migrate.{Migrate}
use Rattle.bf_machine.specs.interleaving.Events.{put_into}
use Rattle.bf_machine.specs.interleaving.Seen.{pending_seen}
use Rattle.bf_run.specs.Records.{IsRecordOf}
use Rattle.bf_run.proofs.Recorded.{new_flip_recorded, new_index_recorded, new_table_recorded, nothing_left, rows_recorded_if_ok}
use Rattle.bf_run.proofs.changes.change_of.Goals as goal

pub returns-in-Rows-clause-recorded : goal.returns-in-Rows-clause-recorded
returns-in-Rows-clause-recorded c =
    rows_recorded_if_ok c.args.store.now.lazy c.live-live.ensures.lazy_state c.args.pending.now c.live-live.result.now c.live-live.ensures.live c.in-Rows.writes c.in-Rows.is
    c.requires.can c.requires.leaves c.requires.stated c.commit_of.result c.commit_of.ensures

pub returns-in_ok-copy-in-NewTable-clause-recorded : goal.returns-in_ok-copy-in-NewTable-clause-recorded
returns-in_ok-copy-in-NewTable-clause-recorded c =
    let lazy = c.args.store.now.lazy in
    let pending = c.args.pending.now in
    subst (λ (t : Table). IsRecordOf lazy (Schema (schema.Table t)) (put_into lazy (pending_seen pending))) (sym c.in_ok-copy-in-NewTable.ensures)
    (new_table_recorded lazy c.live-live.ensures.lazy_state pending c.in-NewTable.table c.in-NewTable.is c.requires.can c.requires.leaves c.requires.stated)

pub returns-in_ok-copy-in-NewIndex-clause-recorded : goal.returns-in_ok-copy-in-NewIndex-clause-recorded
returns-in_ok-copy-in-NewIndex-clause-recorded c =
    let lazy = c.args.store.now.lazy in
    let pending = c.args.pending.now in
    subst (λ (i : IndexRule). IsRecordOf lazy (Schema (schema.Index i)) (put_into lazy (pending_seen pending))) (sym c.in_ok-copy-in-NewIndex.ensures)
    (new_index_recorded lazy c.live-live.ensures.lazy_state pending c.in-NewIndex.index c.in-NewIndex.is c.requires.can c.requires.leaves c.requires.stated)

pub returns-in_ok-copy-in-Flip-clause-recorded : goal.returns-in_ok-copy-in-Flip-clause-recorded
returns-in_ok-copy-in-Flip-clause-recorded c =
    let lazy = c.args.store.now.lazy in
    let pending = c.args.pending.now in
    subst (λ (m : Migrate). IsRecordOf lazy (Flip m) (put_into lazy (pending_seen pending))) (sym c.in_ok-copy-in-Flip.ensures)
    (new_flip_recorded lazy c.live-live.ensures.lazy_state pending c.in-Flip.plan c.in-Flip.is c.requires.can c.requires.leaves c.requires.stated)

pub unreachable-requires : goal.unreachable-requires
unreachable-requires c = nothing_left c.args.store.now.lazy c.live-live.ensures.lazy_state c.args.pending.now c.in-Nothing.is c.requires.leaves
