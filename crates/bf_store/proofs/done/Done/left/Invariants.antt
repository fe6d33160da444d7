use Rattle.std.proofs.Common.{◌≡◌, take}
use Rattle.bf_store.specs.Marks.{left_of}
use Rattle.bf_store.proofs.done.Done.left.Given as goal

-- those of the granules so far
abbrev pub invariant-loop-granule : goal.invariant-loop-granule
invariant-loop-granule l = l.left.items ≡ left_of l.self (take l.granule-index l.granules)
