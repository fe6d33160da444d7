use Rattle.bf_machine.proofs.interleaving.Progress.{alone_is_granted, oldest_may_begin, youngest_never_waits}
use Rattle.bf_machine.proofs.interleaving_laws.some_session_goes_on.Goals as goal

pub returns-clause-alone : goal.returns-clause-alone
returns-clause-alone c = λ start m s o name mode answer kept there alone judged. alone_is_granted start m kept s o there name mode alone answer judged

pub returns-clause-youngest : goal.returns-clause-youngest
returns-clause-youngest c = λ start m s o name mode others kept there youngest waits. youngest_never_waits start m kept s o there name mode youngest others waits

pub returns-clause-oldest : goal.returns-clause-oldest
returns-clause-oldest c = λ start m s group n has kept oldest. oldest_may_begin start m kept s group n has oldest
