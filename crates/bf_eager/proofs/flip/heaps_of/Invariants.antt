use Rattle.std.proofs.Common.{◌≡◌, ◌++◌}
use Rattle.std.specs.Vec.Iter.{into_iter_items}
use Rattle.bf_live.specs.Live.{held_in}
use Rattle.bf_eager.specs.Flips.{heaped}
use Rattle.bf_eager.proofs.flip.heaps_of.Given as goal

-- the tables so far have their heaps
abbrev pub invariant-loop-table : goal.invariant-loop-table
invariant-loop-table l = record {
  left : l.yielded ++ into_iter_items l.table-iterator ≡ l.fn.made.items;
  held : held_in l.heaps.items ≡ heaped l.yielded;
}
