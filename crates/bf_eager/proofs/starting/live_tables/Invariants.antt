use Rattle.std.proofs.Common.{◌≡◌, ◌++◌, map}
use Rattle.std.specs.Map.Iter.{deref}
use Rattle.bf_eager.specs.Starting.{database_with, named_tables}
use Rattle.bf_eager.proofs.starting.live_tables.Given as goal

-- the tables are there with their rows, and the index rules so far
abbrev pub invariant-loop-index : goal.invariant-loop-index
invariant-loop-index l = record {
  can : (goal.iterator-loop-index).can_next l.index-iterator;
  ends : (goal.iterator-loop-index).is_finite l.index-iterator;
  left : map deref l.yielded ++ l.index-iterator ≡ l.catalog.indexes;
  built : l.live ≡ record (database_with l.catalog (named_tables l.fn.given.items)) { number = l.live.number; indexes = map deref l.yielded };
}
