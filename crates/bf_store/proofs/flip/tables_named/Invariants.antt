use Rattle.std.proofs.Common.{◌≡◌, ◌++◌, map}
use Rattle.std.specs.Map.Iter.{deref}
use Rattle.bf_sql.specs.Bound.{catalog_of}
use Rattle.bf_store.proofs.aside.Named.{named}
use Rattle.bf_store.proofs.flip.tables_named.Given as goal

-- those of the tables so far that have the names
abbrev pub invariant-loop-table : goal.invariant-loop-table
invariant-loop-table l = record {
  can : (goal.iterator-loop-table).can_next l.table-iterator;
  ends : (goal.iterator-loop-table).is_finite l.table-iterator;
  left : map deref l.yielded ++ l.table-iterator ≡ (catalog_of l.live).tables;
  named : l.all.items ≡ named l.names (map deref l.yielded);
}
