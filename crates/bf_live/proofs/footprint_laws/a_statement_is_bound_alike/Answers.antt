use Rattle.bf_live.proofs.locking.Binding.{binds_alike}
use Rattle.bf_live.proofs.footprint_laws.a_statement_is_bound_alike.Goals as goal

pub returns : goal.returns
returns c a b in_block s bound within = binds_alike a b in_block s bound within.is
