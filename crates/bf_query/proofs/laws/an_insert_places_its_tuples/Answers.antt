use Rattle.bf_live.proofs.querying.Effects.{rows_placed}
use Rattle.bf_query.proofs.laws.an_insert_places_its_tuples.Goals as goal

pub returns : goal.returns
returns c = rows_placed
