use Rattle.std.proofs.Common.{◌-◌, length, option_map}
use Rattle.std.specs.List.{AllWithin}
use Rattle.bf_index.specs.Edits.{IsIndexOf, edit_to, rows_after}
use Rattle.bf_index.proofs.indexed_heap.follow_all.Given as goal

-- the indexes before the place have followed, and the others are as they were
abbrev pub invariant-loop-at : goal.invariant-loop-at
invariant-loop-at l = record {
  followed : AllWithin (IsIndexOf (rows_after l.heap.entries (edit_to l.key (option_map (λ row. row.now) l.row)))) l.indexes.items 0 l.at;
  left : AllWithin (IsIndexOf l.heap.entries) l.indexes.items l.at (length l.indexes.items);
}

abbrev pub decreases-loop-at : goal.decreases-loop-at
decreases-loop-at l = length l.indexes.items - l.at
