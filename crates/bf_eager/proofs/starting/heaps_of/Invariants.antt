use Rattle.std.proofs.Common.{◌≡◌, ℕ, false, List, ◌++◌, map}
use Rattle.std.specs.Map.Iter.{deref}
use Rattle.bf_base.specs.Lists.{has, same_name}
use Rattle.bf_live.specs.Live.{held_in}
use Rattle.bf_eager.specs.Given.{given_under}
use Rattle.bf_eager.specs.Starting.{named_tables, rows_named}
use Rattle.bf_eager.proofs.Beginning.{called, with_own}
use Rattle.bf_eager.proofs.starting.heaps_of.Given as goal

-- the tables so far have their rows, and the map has those of the others
abbrev pub invariant-loop-table : goal.invariant-loop-table
invariant-loop-table l = record {
  can : (goal.iterator-loop-table).can_next l.table-iterator;
  ends : (goal.iterator-loop-table).is_finite l.table-iterator;
  left : map deref l.yielded ++ l.table-iterator ≡ l.catalog.tables;
  held : held_in l.tables.items ≡ with_own (named_tables l.fn.given.items) (map deref l.yielded);
  under : (name : List ℕ) → has same_name (map called (map deref l.yielded)) name ≡ false → given_under l.by_name name ≡ rows_named (named_tables l.fn.given.items) name;
}
