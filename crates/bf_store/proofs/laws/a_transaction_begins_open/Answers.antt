use Rattle.bf_store.proofs.seeing.Opening.{begins, refused_is_seen}
use Rattle.bf_store.proofs.laws.a_transaction_begins_open.Goals as goal

pub returns : goal.returns
returns c = record { begins = begins; refused = refused_is_seen }
