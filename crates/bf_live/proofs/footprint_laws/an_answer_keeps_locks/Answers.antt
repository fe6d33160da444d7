use Rattle.bf_live.proofs.locking.Granting.{answer_keeps}
use Rattle.bf_live.proofs.footprint_laws.an_answer_keeps_locks.Goals as goal

pub returns : goal.returns
returns c = answer_keeps
