use Rattle.bf_store.proofs.seeing.Viewing.{view_is_database}
use Rattle.bf_store.proofs.laws.the_view_is_a_database.Goals as goal

pub returns : goal.returns
returns c = view_is_database
