use Rattle.std.proofs.Common.{◌≤◌, arith}
use Rattle.bf_run.proofs.deaths.Few.{script_has_few}
use Rattle.bf_run.proofs.deaths.Over.{tells_none, without_many}
use Rattle.bf_run.proofs.death_laws.a_script_that_is_read_runs_without_deaths.Goals as goal

pub returns : goal.returns
returns c = λ text retries start script ended transcripts history sweep read enough run.
    let most : 15 ≤ retries = enough in
    let over = without_many retries start script ended transcripts history sweep run 16 (script_has_few text script read) (omega (arith, most)) in
    (over, tells_none start script ended transcripts history sweep over)
