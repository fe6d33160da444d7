-- A new machine is in sequence, and a sequence that has ended ran in order.
use Rattle.bf_machine.proofs.served.Begun.{fresh_is_in_sequence}
use Rattle.bf_machine.proofs.served.Ran.{ran_in_order}
use Rattle.bf_machine.proofs.interleaving_laws.sessions_in_sequence_run_in_order.Goals as goal

pub returns-clause-new : goal.returns-clause-new
returns-clause-new c = λ start store script retries phases none. fresh_is_in_sequence start store script retries phases none

pub returns-clause-ran : goal.returns-clause-ran
returns-clause-ran c = λ m kept sequence ended. ran_in_order m kept sequence ended
