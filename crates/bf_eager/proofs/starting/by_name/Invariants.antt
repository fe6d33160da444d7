use Rattle.std.proofs.Common.{◌≡◌, ℕ, List, ◌++◌}
use Rattle.std.specs.Vec.Iter.{into_iter_items}
use Rattle.bf_eager.specs.Given.{given_under}
use Rattle.bf_eager.specs.Starting.{named_tables, rows_named}
use Rattle.bf_eager.proofs.starting.by_name.Given as goal

-- the map has the rows that are given so far
abbrev pub invariant-loop-name : goal.invariant-loop-name
invariant-loop-name l = record {
  left : l.yielded ++ into_iter_items l.name-iterator ≡ l.fn.given.items;
  under : (name : List ℕ) → given_under l.by_name name ≡ rows_named (named_tables l.yielded) name;
}
