use Rattle.std.proofs.Common.{◌≡◌, take}
use Rattle.bf_store.specs.Marks.{left_of, numbered_of}
use Rattle.bf_store.proofs.done.Done.parted.Given as goal

-- those of the granules so far
abbrev pub invariant-loop-granule : goal.invariant-loop-granule
invariant-loop-granule l = record {
  moved : l.moved.items ≡ numbered_of l.self (take l.granule-index l.granules);
  left : l.left.items ≡ left_of l.self (take l.granule-index l.granules);
}
