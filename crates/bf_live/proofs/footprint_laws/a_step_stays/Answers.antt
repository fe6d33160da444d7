use Rattle.bf_live.proofs.locking.Groups.{step_stays}
use Rattle.bf_live.proofs.footprint_laws.a_step_stays.Goals as goal

pub returns : goal.returns
returns c = step_stays
