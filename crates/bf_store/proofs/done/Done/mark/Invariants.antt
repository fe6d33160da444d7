use Rattle.std.proofs.Common.{◌≡◌, take}
use Rattle.bf_store.specs.Marks.{marked}
use Rattle.bf_store.proofs.done.Done.mark.Given as goal

-- the granules so far are marked
abbrev pub invariant-loop-at : goal.invariant-loop-at
invariant-loop-at l = l.self ≡ marked l.fn.self (take l.at l.granules) l.number
