use Rattle.std.proofs.Common.{option_map, Bor, refl, sym}
use Rattle.bf_base.specs.declared.row.Row.{Row}
use Rattle.bf_heap.specs.Heaps.{Entry}
use Rattle.bf_txn.specs.Writes.{KeyWrite}
use Rattle.bf_query.specs.RowsAhead.{entries_ahead}
use Rattle.bf_live.proofs.querying.Merging.{at_end, below_none, below_first, entry_before, head_of, next_by_key, none_of, now_in_order, rows_alone, write_ahead, write_replaces}
use Rattle.bf_query.proofs.merge.Merge.advance.Goals as goal

-- only writes are ahead, or only rows, or nothing
pub returns-in-None-None-clause-rows : goal.returns-in-None-None-clause-rows
returns-in-None-None-clause-rows c =
    at_end (entries_ahead c.args.self.now.rows) c.args.self.now.in_order c.in-None-None.ensures c.args.self.now.writes (none_of c.args.self.now.writes (sym c.in-None-None.ensures'))

pub returns-in-None-Some-clause-rows : goal.returns-in-None-Some-clause-rows
returns-in-None-Some-clause-rows c =
    let write : KeyWrite = (c.in-None-Some.field-0-0-1.now, option_map (λ (row : Bor Row). row.now) c.in-None-Some.written) in
    let split = head_of c.args.self.now.writes c.advance.new.self write c.in-None-Some.ensures' c.advance.ensures in
    write_ahead (entries_ahead c.args.self.now.rows) c.args.self.now.in_order write c.advance.new.self c.args.self.now.writes split c.args.self.now.by_key write.1 refl (below_none (entries_ahead c.args.self.now.rows) c.args.self.now.in_order write.0 c.in-None-Some.ensures)

pub returns-in-Some-None-clause-rows : goal.returns-in-Some-None-clause-rows
returns-in-Some-None-clause-rows c =
    let entry : Entry = (c.in-Some-None.field-0-0-0.now, c.in-Some-None.row.now) in
    let split = head_of (entries_ahead c.args.self.now.rows) (entries_ahead c.advance-in-Some-None.new.self) entry c.in-Some-None.ensures c.advance-in-Some-None.ensures in
    rows_alone (entries_ahead c.args.self.now.rows) (entries_ahead c.advance-in-Some-None.new.self) entry c.args.self.now.writes split (none_of c.args.self.now.writes (sym c.in-Some-None.ensures'))

-- the write is before the entry, to its key, or behind it
pub returns-in-Less-clause-rows : goal.returns-in-Less-clause-rows
returns-in-Less-clause-rows c =
    let entry : Entry = (c.in-Some-Some.key.now, c.in-Some-Some.row.now) in
    let write : KeyWrite = (c.in-Some-Some.at.now, option_map (λ (row : Bor Row). row.now) c.in-Some-Some.written) in
    let split = head_of c.args.self.now.writes c.advance-in-Less.new.self write c.in-Some-Some.ensures' c.advance-in-Less.ensures in
    write_ahead (entries_ahead c.args.self.now.rows) c.args.self.now.in_order write c.advance-in-Less.new.self c.args.self.now.writes split c.args.self.now.by_key write.1 refl
    (below_first (entries_ahead c.args.self.now.rows) c.args.self.now.in_order write.0 entry c.in-Some-Some.ensures (sym c.in-Less.ensures.order))

pub invariant_of-self-in-Equal-clause-in_order : goal.invariant_of-self-in-Equal-clause-in_order
invariant_of-self-in-Equal-clause-in_order c =
    now_in_order (entries_ahead c.args.self.now.rows) c.args.self.now.in_order (c.in-Some-Some.key.now, c.in-Some-Some.row.now) c.in-Some-Some.ensures (entries_ahead c.advance-in-Equal.new.self) c.advance-in-Equal.ensures

pub invariant_of-self-in-Equal-clause-by_key : goal.invariant_of-self-in-Equal-clause-by_key
invariant_of-self-in-Equal-clause-by_key c = next_by_key c.args.self.now.writes c.advance-in-Equal-2.new.self c.advance-in-Equal-2.ensures c.args.self.now.by_key

pub returns-in-Equal-clause-rows : goal.returns-in-Equal-clause-rows
returns-in-Equal-clause-rows c =
    let entry : Entry = (c.in-Some-Some.key.now, c.in-Some-Some.row.now) in
    let write : KeyWrite = (c.in-Some-Some.at.now, option_map (λ (row : Bor Row). row.now) c.in-Some-Some.written) in
    let split = head_of c.args.self.now.writes c.advance-in-Equal-2.new.self write c.in-Some-Some.ensures' c.advance-in-Equal-2.ensures in
    write_replaces (entries_ahead c.args.self.now.rows) c.args.self.now.in_order entry c.in-Some-Some.ensures (entries_ahead c.advance-in-Equal.new.self) c.advance-in-Equal.ensures
    write c.advance-in-Equal-2.new.self c.args.self.now.writes split c.args.self.now.by_key write.1 refl (sym c.in-Equal.ensures.order)

pub returns-in-Greater-clause-rows : goal.returns-in-Greater-clause-rows
returns-in-Greater-clause-rows c =
    let entry : Entry = (c.in-Some-Some.key.now, c.in-Some-Some.row.now) in
    let write : KeyWrite = (c.in-Some-Some.at.now, option_map (λ (row : Bor Row). row.now) c.in-Some-Some.written) in
    let split = head_of c.args.self.now.writes _ write c.in-Some-Some.ensures' refl in
    entry_before (entries_ahead c.args.self.now.rows) c.args.self.now.in_order entry c.in-Some-Some.ensures (entries_ahead c.advance-in-Greater.new.self) c.advance-in-Greater.ensures
    write _ c.args.self.now.writes split c.args.self.now.by_key (sym c.in-Greater.ensures.order)
