use Rattle.bf_machine.proofs.interleaving.Worked.{younger_is_refused}
use Rattle.bf_machine.proofs.interleaving_laws.a_younger_session_is_refused.Goals as goal

pub returns : goal.returns
returns c = younger_is_refused
