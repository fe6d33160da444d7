use Rattle.bf_machine.proofs.served.Over.{ran_over}
use Rattle.bf_machine.proofs.interleaving_laws.sessions_that_have_ended_ran_over.Goals as goal

pub returns : goal.returns
returns g c = λ start logged store script retries m next j l keeps new kept ended no_death.
    ran_over g.J.Journal.Answers start logged store script retries m next j l keeps new kept ended no_death
