use Rattle.bf_live.proofs.locking.Groups.{own_writes_keep}
use Rattle.bf_live.proofs.footprint_laws.own_writes_keep_agreement.Goals as goal

pub returns : goal.returns
returns c a b writes bound is_a is_b open_a open_b = own_writes_keep a b writes bound open_a open_b
