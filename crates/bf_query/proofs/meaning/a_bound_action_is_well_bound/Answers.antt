use Rattle.bf_live.proofs.querying.Binding.{well_bound, leaves_keys, stored_table}
use Rattle.bf_query.proofs.meaning.a_bound_action_is_well_bound.Goals as goal

pub returns : goal.returns
returns c = record { well_bound = well_bound; leaves_keys = leaves_keys; table = stored_table }
