use Rattle.std.proofs.Common.{◌≡◌, take}
use Rattle.bf_store.specs.Marks.{unmarked}
use Rattle.bf_store.proofs.done.Done.unmark.Given as goal

-- the granules so far are taken back
abbrev pub invariant-loop-granule : goal.invariant-loop-granule
invariant-loop-granule l = l.self ≡ unmarked l.fn.self (take l.granule-index l.granules)
