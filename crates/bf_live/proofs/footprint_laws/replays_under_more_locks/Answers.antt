use Rattle.bf_live.proofs.locking.Groups.{under_more}
use Rattle.bf_live.proofs.footprint_laws.replays_under_more_locks.Goals as goal

pub returns : goal.returns
returns c = under_more
