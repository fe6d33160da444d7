use Rattle.bf_store.proofs.coming.Owning.{free_is_settled}
use Rattle.bf_store.proofs.laws.a_key_is_free_exactly_where_its_owner_has_moved.Goals as goal

pub returns : goal.returns
returns c = λ live last s t key way there found. free_is_settled live last way s there t found key
