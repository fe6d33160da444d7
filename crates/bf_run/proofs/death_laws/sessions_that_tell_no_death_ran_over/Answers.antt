use Rattle.bf_run.proofs.deaths.Over.{ran_over_few, ran_over_told}
use Rattle.bf_run.proofs.death_laws.sessions_that_tell_no_death_ran_over.Goals as goal

pub returns-clause-told : goal.returns-clause-told
returns-clause-told g c = λ start logged store script retries m next j l keeps new kept ended none.
    ran_over_told g.J.Journal.Answers start logged store script retries m next j l keeps new kept ended none

pub returns-clause-few : goal.returns-clause-few
returns-clause-few g c = λ start logged store script retries most m next j l keeps new kept ended few lives.
    ran_over_few g.J.Journal.Answers start logged store script retries m next j l keeps new kept ended most few lives
