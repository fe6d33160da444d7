use Rattle.std.proofs.Common.{◌≡◌, ◌++◌, map, take, drop, Some}
use Rattle.std.specs.Prelude.{flat_map}
use Rattle.bf_base.specs.Lists.{with_before_from}
use Rattle.bf_base.specs.Tables.{key_of}
use Rattle.bf_sql.specs.RowObjections.{insert_objections, unfit_row_objections, taken_key_objections}
use Rattle.bf_txn.specs.Writes.{gathered}
use Rattle.bf_live.specs.Replies.{write_of}
use Rattle.bf_live.specs.Merged.{rows_under}
use Rattle.bf_query.proofs.change.plan_insert.Given as goal

-- the tuples so far have their writes; the tuples from here on have all objections
abbrev pub invariant-loop-tuple : goal.invariant-loop-tuple
invariant-loop-tuple l = record {
  writes : l.writes ≡ gathered (map (λ tuple. write_of l.table (key_of l.table tuple) (Some tuple)) (take l.tuple-index l.tuples));
  objections : flat_map (λ p. unfit_row_objections l.table p.1 ++ taken_key_objections l.table (rows_under l.heap.entries l.workspace l.table.name ++ p.0) p.1) (with_before_from (take l.tuple-index l.tuples) (drop l.tuple-index l.tuples))
      ≡ insert_objections l.table (rows_under l.heap.entries l.workspace l.table.name) l.tuples;
}
