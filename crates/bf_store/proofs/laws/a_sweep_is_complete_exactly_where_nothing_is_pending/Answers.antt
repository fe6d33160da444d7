use Rattle.bf_store.proofs.moving.Sweeping.{complete_if_none_pending, none_pending_if_complete}
use Rattle.bf_store.proofs.laws.a_sweep_is_complete_exactly_where_nothing_is_pending.Goals as goal

pub returns : goal.returns
returns c = λ last. (none_pending_if_complete last, complete_if_none_pending last)
