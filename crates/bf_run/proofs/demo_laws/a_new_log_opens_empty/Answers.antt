use Rattle.bf_run.proofs.Demonstrated.{opens_empty}
use Rattle.bf_run.proofs.demo_laws.a_new_log_opens_empty.Goals as goal

pub returns : goal.returns
returns c = λ start opens. opens_empty start opens
