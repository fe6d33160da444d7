use Rattle.std.proofs.Common.{◌≡◌, true, List, Option, Bor, filter, map, IfOk, sym, ap, subst, ◌∙◌}
use Rattle.std.specs.Option.{option_to_list}
use Rattle.bf_base.specs.declared.row.Key.{Key}
use Rattle.bf_base.specs.declared.row.Row.{Row}
use Rattle.bf_base.specs.declared.value.Value.{Value}
use Rattle.bf_base.specs.Tables.{cell}
use Rattle.bf_sql.specs.Queries.{selected}
use Rattle.bf_base.specs.Maps.{is_map}
use Rattle.bf_base.specs.Values.{key_cmp, key_cmp_total}
use Rattle.bf_base.proofs.Apart.{rises-filter}
use Rattle.bf_heap.specs.declared.key_range.KeyRange.{KeyRange}
use Rattle.bf_heap.specs.Heaps.{Entry, key_of_entry}
use Rattle.bf_heap.specs.KeyRanges.{is_within}
use Rattle.bf_txn.specs.Writes.{KeyWrite, key_writes_to}
use Rattle.bf_access.specs.ByIndex.{entries_with, fixed_value}
use Rattle.bf_access.specs.Ranges.{key_range_of}
use Rattle.bf_query.specs.RowsAhead.{entries_ahead}
use Rattle.bf_query.specs.declared.rows_ahead.RowsAhead.TheVariants.{Listed}
use Rattle.bf_query.proofs.IndexRows.{index_ahead, with_in_order}
use Rattle.bf_live.proofs.querying.Keyed.{by_key_in}
use Rattle.bf_query.proofs.RangeRows.{range_ahead}
use Rattle.bf_live.proofs.querying.OwnKeys.{fixed_selected}
use Rattle.bf_query.proofs.merge.selected_rows.Goals as goal

-- a fixed key leaves the one row that is looked up
pub returns-in-Some : goal.returns-in-Some
returns-in-Some c =
    let looked_up = ap (λ (found : Option (List Value)). selected cell c.args.cond.now (option_to_list found)) c.row_at.ensures in
    let one = fixed_selected c.args.table.now c.args.cond.now c.in-Some.key c.args.heap.now.entries c.args.workspace.now c.len.ensures.heap.in_order c.requires.keys (sym c.requires.fixed ∙ c.in-Some.is) in
    subst (λ (all : List (List Value)). IfOk c.if_it_holds.result (λ rows. map (λ (row : Bor Row). row.now) rows.items ≡ all)) (looked_up ∙ one) c.if_it_holds.ensures

-- else one pass goes over rows and the writes whose keys are in the range that the condition leaves: over the rows that an index lists
pub scan-requires-clause-rows : goal.scan-requires-clause-rows
scan-requires-clause-rows c =
    let columns = c.in-Some-index_for.index.now.columns in
    let entries = c.args.heap.now.entries in
    let rows_are : entries_ahead (Listed (record { rows = c.as_slice.result })) ≡ entries_with columns (fixed_value c.args.cond.now columns) entries =
    ap (map (λ (entry : Key × Bor Row). let e : Entry = (entry.0, entry.1.now) in e)) c.as_slice.ensures.value ∙ c.in_ok-listed-in-Some-index_for.ensures in
    subst (λ (rows : List Entry). is_map key_cmp key_of_entry rows ≡ true) (sym rows_are) (with_in_order c.args.cond.now columns c.in-Some-index_for.ensures.some.serves entries c.len.ensures.heap.in_order)

pub scan-requires-clause-writes : goal.scan-requires-clause-writes
scan-requires-clause-writes c =
    by_key_in c.args.workspace.now c.args.table.now.name (λ (write : KeyWrite). is_within c.in_ok-range.range write.0) c.range-writes.result c.range-writes.ensures.sorted c.range-writes.ensures.writes

pub returns-in-Some-index_for : goal.returns-in-Some-index_for
returns-in-Some-index_for c =
    let table = c.args.table.now in
    let cond = c.args.cond.now in
    let columns = c.in-Some-index_for.index.now.columns in
    let entries = c.args.heap.now.entries in
    let writes = c.args.workspace.now in
    let rows_are : entries_ahead (Listed (record { rows = c.as_slice.result })) ≡ entries_with columns (fixed_value cond columns) entries =
    ap (map (λ (entry : Key × Bor Row). let e : Entry = (entry.0, entry.1.now) in e)) c.as_slice.ensures.value ∙ c.in_ok-listed-in-Some-index_for.ensures in
    let writes_are : c.range-writes.result ≡ filter (λ (w : KeyWrite). is_within (key_range_of table cond) w.0) (key_writes_to table.name writes) =
    c.range-writes.ensures.writes ∙ ap (λ (range : KeyRange). filter (λ (w : KeyWrite). is_within range w.0) (key_writes_to table.name writes)) c.in_ok-range.ensures in
    let all = index_ahead cond columns c.in-Some-index_for.ensures.some.serves table entries (entries_ahead (Listed (record { rows = c.as_slice.result }))) writes c.range-writes.result c.len.ensures.heap.in_order c.requires.keys rows_are writes_are in
    subst (λ (found : List (List Value)). IfOk c.scan.result (λ rows. map (λ (row : Bor Row). row.now) rows.items ≡ found)) all c.scan.ensures

-- or over those in the range of keys
pub scan-requires-in-None-clause-rows : goal.scan-requires-in-None-clause-rows
scan-requires-in-None-clause-rows c =
    subst (λ (rows : List Entry). is_map key_cmp key_of_entry rows ≡ true) (sym c.range.ensures)
    (rises-filter key_cmp_total key_of_entry (λ (e : Entry). is_within c.in_ok-range.range e.0) c.args.heap.now.entries c.len.ensures.heap.in_order)

pub scan-requires-in-None-clause-writes : goal.scan-requires-in-None-clause-writes
scan-requires-in-None-clause-writes c =
    by_key_in c.args.workspace.now c.args.table.now.name (λ (write : KeyWrite). is_within c.in_ok-range.range write.0) c.range-writes.result c.range-writes.ensures.sorted c.range-writes.ensures.writes

pub returns : goal.returns
returns c =
    let table = c.args.table.now in
    let entries = c.args.heap.now.entries in
    let writes = c.args.workspace.now in
    let rows_are : c.range.result ≡ filter (λ (e : Entry). is_within (key_range_of table c.args.cond.now) e.0) entries =
    c.range.ensures ∙ ap (λ (range : KeyRange). filter (λ (e : Entry). is_within range e.0) entries) c.in_ok-range.ensures in
    let writes_are : c.range-writes.result ≡ filter (λ (w : KeyWrite). is_within (key_range_of table c.args.cond.now) w.0) (key_writes_to table.name writes) =
    c.range-writes.ensures.writes ∙ ap (λ (range : KeyRange). filter (λ (w : KeyWrite). is_within range w.0) (key_writes_to table.name writes)) c.in_ok-range.ensures in
    let all = range_ahead table c.args.cond.now entries c.range.result writes c.range-writes.result c.len.ensures.heap.in_order c.requires.keys rows_are writes_are in
    subst (λ (found : List (List Value)). IfOk c.scan-in-None.result (λ rows. map (λ (row : Bor Row). row.now) rows.items ≡ found)) all c.scan-in-None.ensures
