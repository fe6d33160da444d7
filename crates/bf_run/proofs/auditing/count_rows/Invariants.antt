-- The tables so far are counted.
use Rattle.std.proofs.Common.{◌≡◌, ◌++◌, map}
use Rattle.std.specs.Map.Iter.{deref}
use Rattle.bf_sql.specs.Bound.{catalog_of}
use Rattle.bf_run.proofs.Settling.{counted}
use Rattle.bf_run.proofs.auditing.count_rows.Given as goal

abbrev pub invariant-loop-table : goal.invariant-loop-table
invariant-loop-table l = record {
  can : (goal.iterator-loop-table).can_next l.table-iterator;
  ends : (goal.iterator-loop-table).is_finite l.table-iterator;
  left : map deref l.yielded ++ l.table-iterator ≡ (catalog_of l.live).tables;
  built : l.counts.items ≡ map (counted l.live) (map deref l.yielded);
}
