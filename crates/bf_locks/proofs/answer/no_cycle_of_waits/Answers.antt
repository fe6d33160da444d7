use Rattle.bf_locks.proofs.Rising.{no_cycle}
use Rattle.bf_locks.proofs.answer.no_cycle_of_waits.Goals as goal

pub returns : goal.returns
returns c = no_cycle
