use Rattle.bf_live.proofs.locking.Granting.{freeing_keeps}
use Rattle.bf_live.proofs.footprint_laws.freeing_keeps_others.Goals as goal

pub returns : goal.returns
returns c = freeing_keeps
