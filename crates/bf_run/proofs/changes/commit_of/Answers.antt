use Rattle.std.proofs.Common.{◌++◌, List, sym, ap, ◌∙◌}
use Rattle.bf_record.specs.declared.writes.TableWrite.{TableWrite}
use Rattle.bf_txn.specs.Writes.{OfTable, all_writes}
use Rattle.bf_run.specs.Records.{writes_told}
use Rattle.bf_run.proofs.Told.{table_told, table_untold}
use Rattle.bf_run.proofs.changes.commit_of.Goals as goal

pub loop-table-preserved-in-Continue-1 : goal.loop-table-preserved-in-Continue-1
loop-table-preserved-in-Continue-1 c =
    let live = c.args.live.now in
    let so_far : List TableWrite = c.loop-table.told.items in
    table_told live c.in-Some.table.now c.in-Some.written.now (all_writes c.next.new.self) so_far (writes_told live c.args.writes.now)
    c.in-Some-heap.heap.now.entries c.tell_writes.new.told.items c.in-Some-heap.ensures c.in_ok-tell_writes.ensures
    (ap (λ (ts : List OfTable). so_far ++ writes_told live (all_writes ts)) (sym c.in-Some.ensures.steps) ∙ c.loop-table.invariant)

pub loop-table-preserved : goal.loop-table-preserved
loop-table-preserved c =
    let live = c.args.live.now in
    let so_far : List TableWrite = c.loop-table.told.items in
    table_untold live c.in-Some.table.now c.in-Some.written.now (all_writes c.next.new.self) so_far (writes_told live c.args.writes.now) c.in_default.ensures
    (ap (λ (ts : List OfTable). so_far ++ writes_told live (all_writes ts)) (sym c.in-Some.ensures.steps) ∙ c.loop-table.invariant)
