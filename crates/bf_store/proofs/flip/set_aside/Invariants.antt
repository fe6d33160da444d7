use Rattle.std.proofs.Common.{◌≡◌, ◌+◌, ◌≤◌, ◌++◌, length, map, vec_len}
use Rattle.std.specs.Prelude.{vec_capacity}
use Rattle.std.specs.Vec.Iter.{into_iter_items}
use Rattle.bf_live.specs.Aside.{set_aside as without_rows_of}
use Rattle.bf_store.specs.Flips.{frozen_in, names_in}
use Rattle.bf_store.proofs.flip.set_aside.Given as goal

-- the rows of the tables so far are aside, and there is room for the others
abbrev pub invariant-loop-table : goal.invariant-loop-table
invariant-loop-table l = record {
  can : (goal.iterator-loop-table).can_next l.table-iterator;
  ends : (goal.iterator-loop-table).is_finite l.table-iterator;
  left : l.yielded ++ into_iter_items l.table-iterator ≡ l.fn.tables.items;
  room : vec_len l.frozen + length (into_iter_items l.table-iterator) ≤ vec_capacity l.frozen;
  frozen : l.frozen.items ≡ map (frozen_in l.fn.live) l.yielded;
  aside : l.live ≡ without_rows_of (names_in l.yielded) l.fn.live;
}
