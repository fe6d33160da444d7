use Rattle.bf_live.proofs.locking.Writing.{bound_has_keys}
use Rattle.bf_live.proofs.footprint_laws.a_bound_statement_has_keys.Goals as goal

pub returns : goal.returns
returns c = bound_has_keys
