use Rattle.std.proofs.Common.{◌≡◌, slice_get}
use Rattle.bf_locks.specs.Judgement.{conflicting}
use Rattle.bf_locks.proofs.judgement.oldest_of_several.Given as goal

-- the oldest that conflicts is among the holders that are left
abbrev pub invariant-loop-other : goal.invariant-loop-other
invariant-loop-other l = slice_get (conflicting l.owner l.wanted l.several.entries) 0 ≡ slice_get (conflicting l.owner l.wanted l.other-iterator) 0
