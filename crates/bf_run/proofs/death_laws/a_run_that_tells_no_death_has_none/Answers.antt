use Rattle.bf_run.proofs.deaths.Over.{tells_none, without_many, without_told}
use Rattle.bf_run.proofs.death_laws.a_run_that_tells_no_death_has_none.Goals as goal

pub returns-clause-told : goal.returns-clause-told
returns-clause-told c = λ retries start script ended transcripts history sweep run none. without_told retries start script ended transcripts history sweep run none

pub returns-clause-few : goal.returns-clause-few
returns-clause-few c = λ retries most start script ended transcripts history sweep run few lives. without_many retries start script ended transcripts history sweep run most few lives

pub returns-clause-tells_none : goal.returns-clause-tells_none
returns-clause-tells_none c = λ start script ended transcripts history sweep run. tells_none start script ended transcripts history sweep run
