use Rattle.bf_store.proofs.moving.Completing.{as_many, complete_sweep, each_once}
use Rattle.bf_store.proofs.laws.a_sweep_is_complete_exactly_where_each_granule_has_moved_once.Goals as goal

pub returns-clause-complete : goal.returns-clause-complete
returns-clause-complete c = λ live last way. (each_once live last way, complete_sweep live last way)

pub returns-clause-as_many : goal.returns-clause-as_many
returns-clause-as_many c = λ live last way complete. as_many live last way complete
