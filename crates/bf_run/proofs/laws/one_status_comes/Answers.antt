use Rattle.bf_run.proofs.one.Status.{one_status}
use Rattle.bf_run.proofs.laws.one_status_comes.Goals as goal

pub returns : goal.returns
returns g c asks input bytes old new other_new one other tells d e p q =
    one_status asks input bytes _ (g.S.Shelf.held other_new) (g.S.Shelf.fault_count other_new) one other tells d e p q
