use Rattle.std.proofs.Common.{◌≡◌, [], fold, length, map}
use Rattle.bf_index.specs.Edits.{pair_of}
use Rattle.bf_index.specs.Pairs.{with_pair}
use Rattle.bf_index.proofs.indexed_heap.index_of.Given as goal

-- the pairs so far with those of the rows that are ahead are the pairs of all rows, added one by one
abbrev pub invariant-loop-key : goal.invariant-loop-key
invariant-loop-key l = record {
  columns : l.index.columns ≡ l.fn.columns.items;
  pairs : fold with_pair l.index.pairs (map (pair_of l.fn.columns.items) l.ahead) ≡ fold with_pair [] (map (pair_of l.fn.columns.items) l.fn.heap.entries);
}

abbrev pub decreases-loop-key : goal.decreases-loop-key
decreases-loop-key l = length l.ahead
