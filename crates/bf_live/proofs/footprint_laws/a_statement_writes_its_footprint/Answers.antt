use Rattle.bf_live.proofs.locking.Writing.{writes_footprint}
use Rattle.bf_live.proofs.footprint_laws.a_statement_writes_its_footprint.Goals as goal

pub returns : goal.returns
returns c = writes_footprint
