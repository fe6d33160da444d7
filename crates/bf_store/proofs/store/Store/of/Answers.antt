use Rattle.bf_store.proofs.Storing.{first_store}
use Rattle.bf_store.proofs.store.Store.of.Goals as goal

pub invariant_of-result : goal.invariant_of-result
invariant_of-result c = first_store c.args.live c.catalog.ensures.database c.requires
