use Rattle.bf_live.proofs.querying.OwnKeys.{by_recursion}
use Rattle.bf_live.specs.OpenGroups.{MayWrite}
use Rattle.bf_live.proofs.locking.Isolation.{alone}
use Rattle.bf_live.proofs.footprint_laws.a_pending_schema_change_stays.Goals as goal

pub returns : goal.returns
returns c locks owner other db writes consistent apart whole may =
    alone locks owner other consistent apart db writes whole (by_recursion (MayWrite locks other) writes may)
