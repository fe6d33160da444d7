use Rattle.std.proofs.Common.{sym, subst}
use Rattle.bf_locks.specs.Locks.{IsConsistent}
use Rattle.bf_locks.proofs.Held.{consistent_empty}
use Rattle.bf_locks.proofs.Holders.{locks_of_empty}
use Rattle.bf_locks.proofs.Sound.{sound_empty}
use Rattle.bf_locks.proofs.table.LockTable.new.Goals as goal

pub invariant_of-result : goal.invariant_of-result
invariant_of-result c = sound_empty c.new.result c.new-2.result c.new.ensures.ordered c.new.ensures.empty c.new-2.ensures.empty

pub returns-clause-consistent : goal.returns-clause-consistent
returns-clause-consistent c = subst IsConsistent (sym (locks_of_empty c.new.result c.new.ensures.empty)) consistent_empty
