use Rattle.bf_run.proofs.deaths.Rule.{none_died, none_told}
use Rattle.bf_run.proofs.death_laws.no_group_is_told_that_it_died.Goals as goal

pub returns-clause-few : goal.returns-clause-few
returns-clause-few c = λ start m most kept few lives. none_told m kept most few lives

pub returns-clause-none_died : goal.returns-clause-none_died
returns-clause-none_died c = λ start m kept none. none_died m kept none
