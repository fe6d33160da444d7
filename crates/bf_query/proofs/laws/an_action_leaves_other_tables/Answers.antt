use Rattle.bf_live.proofs.querying.Keeping.{other_tables_stay}
use Rattle.bf_query.proofs.laws.an_action_leaves_other_tables.Goals as goal

pub returns : goal.returns
returns c = other_tables_stay
