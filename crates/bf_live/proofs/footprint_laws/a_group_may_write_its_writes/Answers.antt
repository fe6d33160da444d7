use Rattle.bf_live.proofs.querying.OwnKeys.{each}
use Rattle.bf_live.proofs.statements.Seeing.{begun}
use Rattle.bf_live.specs.OpenGroups.{MayWrite}
use Rattle.bf_live.proofs.locking.Groups.{may_write_all}
use Rattle.std.proofs.Common.{[]}
use Rattle.bf_live.proofs.footprint_laws.a_group_may_write_its_writes.Goals as goal

pub returns : goal.returns
returns c locks owner db told after is replays =
    each (MayWrite locks owner) after (may_write_all locks owner db told [] after (begun db is) tt replays)
