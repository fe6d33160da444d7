use Rattle.bf_machine.proofs.interleaving.Planning.{footprint_prepared}
use Rattle.bf_machine.proofs.interleaving_laws.a_statement_asks_for_what_it_is_prepared_to.Goals as goal

pub returns : goal.returns
returns c = footprint_prepared
