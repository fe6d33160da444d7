use Rattle.bf_run.proofs.deaths.Few.{script_has_few}
use Rattle.bf_run.proofs.death_laws.a_script_that_is_read_has_few_sessions_in_a_phase.Goals as goal

pub returns : goal.returns
returns c = λ text script read. script_has_few text script read
