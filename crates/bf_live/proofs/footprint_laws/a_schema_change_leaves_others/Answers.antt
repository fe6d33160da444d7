use Rattle.bf_live.proofs.locking.Groups.{group_outlasts}
use Rattle.bf_live.proofs.footprint_laws.a_schema_change_leaves_others.Goals as goal

pub returns : goal.returns
returns c = group_outlasts
