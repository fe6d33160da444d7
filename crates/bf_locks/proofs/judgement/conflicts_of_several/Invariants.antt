use Rattle.std.proofs.Common.{◌≡◌, ◌++◌}
use Rattle.bf_locks.specs.Judgement.{conflicting}
use Rattle.bf_locks.proofs.judgement.conflicts_of_several.Given as goal

-- those that were found, and then those among the holders that are left
abbrev pub invariant-loop-other : goal.invariant-loop-other
invariant-loop-other l = conflicting l.owner l.wanted l.several.entries ≡ l.others.items ++ conflicting l.owner l.wanted l.other-iterator
