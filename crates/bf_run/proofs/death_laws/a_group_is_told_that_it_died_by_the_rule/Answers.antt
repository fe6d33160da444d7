use Rattle.bf_run.proofs.deaths.Rule.{by_rule}
use Rattle.bf_run.proofs.death_laws.a_group_is_told_that_it_died_by_the_rule.Goals as goal

pub returns : goal.returns
returns c = λ start m s n h kept told. by_rule m kept s n h told
