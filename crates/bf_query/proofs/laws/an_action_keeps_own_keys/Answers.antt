use Rattle.bf_live.proofs.querying.Keeping.{own_kept, others_keep}
use Rattle.bf_query.proofs.laws.an_action_keeps_own_keys.Goals as goal

pub returns : goal.returns
returns c = record { own = own_kept; others = others_keep }
