use Rattle.bf_query.proofs.Restricting.{kept-fold}
use Rattle.bf_query.proofs.laws.keys_may_be_chosen_first.Goals as goal

pub returns : goal.returns
returns c test entries writes = kept-fold test writes entries
