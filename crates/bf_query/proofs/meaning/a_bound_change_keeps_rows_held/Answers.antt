use Rattle.bf_live.proofs.querying.Held.{own_held, others_held}
use Rattle.bf_query.proofs.meaning.a_bound_change_keeps_rows_held.Goals as goal

pub returns : goal.returns
returns c = record { own = own_held; others = others_held }
