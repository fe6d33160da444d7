use Rattle.bf_live.proofs.locking.Groups.{step_added}
use Rattle.bf_live.proofs.footprint_laws.a_step_is_added.Goals as goal

pub returns : goal.returns
returns c = step_added
