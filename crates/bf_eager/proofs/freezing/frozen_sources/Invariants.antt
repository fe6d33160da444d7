use Rattle.std.proofs.Common.{◌≡◌, ◌++◌, map}
use Rattle.std.specs.Map.Iter.{deref}
use Rattle.bf_sql.specs.Bound.{catalog_of}
use Rattle.bf_eager.proofs.Copying.{AreFrozenOf}
use Rattle.bf_eager.proofs.freezing.frozen_sources.Given as goal

-- those of the tables so far are frozen that have the names
abbrev pub invariant-loop-table : goal.invariant-loop-table
invariant-loop-table l = record {
  can : (goal.iterator-loop-table).can_next l.table-iterator;
  ends : (goal.iterator-loop-table).is_finite l.table-iterator;
  left : map deref l.yielded ++ l.table-iterator ≡ (catalog_of l.live).tables;
  frozen : AreFrozenOf l.live l.sources (map deref l.yielded) l.all.items;
}
