use Rattle.std.proofs.Common.{◌≡◌, [], ◌++◌, map}
use Rattle.std.specs.Map.Iter.{deref}
use Rattle.bf_serve.proofs.catalogs.copy_of.Given as goal

-- the copy has the tables so far
abbrev pub invariant-loop-table : goal.invariant-loop-table
invariant-loop-table l = record {
  can : (goal.iterator-loop-table).can_next l.table-iterator;
  ends : (goal.iterator-loop-table).is_finite l.table-iterator;
  left : map deref l.yielded ++ l.table-iterator ≡ l.catalog.tables;
  built : l.copy ≡ record { number = l.copy.number; tables = map deref l.yielded; indexes = [] };
}

-- and then all of them, and the index rules so far
abbrev pub invariant-loop-index : goal.invariant-loop-index
invariant-loop-index l = record {
  can : (goal.iterator-loop-index).can_next l.index-iterator;
  ends : (goal.iterator-loop-index).is_finite l.index-iterator;
  left : map deref l.yielded ++ l.index-iterator ≡ l.catalog.indexes;
  built : l.copy ≡ record { number = l.copy.number; tables = l.catalog.tables; indexes = map deref l.yielded };
}
