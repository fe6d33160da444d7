use Rattle.bf_live.proofs.locking.Reading.{reads_footprint}
use Rattle.bf_live.proofs.footprint_laws.a_statement_reads_its_footprint.Goals as goal

pub returns : goal.returns
returns c = reads_footprint
