use Rattle.bf_machine.proofs.interleaving.Standing.{transcripts_legal}
use Rattle.bf_machine.proofs.interleaving_laws.transcripts_are_legal.Goals as goal

pub returns : goal.returns
returns c = transcripts_legal
