use Rattle.bf_live.proofs.querying.OwnKeys.{by_recursion}
use Rattle.bf_live.specs.OpenGroups.{MayWrite}
use Rattle.bf_live.proofs.locking.Isolation.{commit_keeps}
use Rattle.bf_live.proofs.footprint_laws.a_commit_keeps_agreement.Goals as goal

pub returns : goal.returns
returns c locks owner other db writes bound consistent apart is opened may holds =
    commit_keeps locks owner other consistent apart db writes opened (by_recursion (MayWrite locks other) writes may) bound holds
