use Rattle.bf_run.proofs.Kept.{prefix_left}
use Rattle.bf_run.proofs.laws.where_nothing_was_pending_a_prefix_is_left.Goals as goal

pub returns : goal.returns
returns g c = λ old new status script start history ended kept file image only opens may.
    λ left there. prefix_left (g.D.Disk.may_leave old) script start history kept.failed file only opens left (kept.leaves.ever image may left there)
