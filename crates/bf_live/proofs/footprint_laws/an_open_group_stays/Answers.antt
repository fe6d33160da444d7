use Rattle.bf_live.proofs.locking.Groups.{open_group_stays}
use Rattle.bf_live.proofs.footprint_laws.an_open_group_stays.Goals as goal

pub returns : goal.returns
returns c = open_group_stays
