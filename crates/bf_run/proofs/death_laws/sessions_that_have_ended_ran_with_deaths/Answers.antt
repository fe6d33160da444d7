use Rattle.bf_run.proofs.deaths.Over.{ran_with_deaths}
use Rattle.bf_run.proofs.death_laws.sessions_that_have_ended_ran_with_deaths.Goals as goal

pub returns : goal.returns
returns g c = λ start logged store script retries m next j l keeps new kept ended.
    ran_with_deaths g.J.Journal.Answers start logged store script retries m next j l keeps new kept ended
