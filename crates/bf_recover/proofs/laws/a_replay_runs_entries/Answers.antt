use Rattle.bf_recover.proofs.Replaying.{runs_entries}
use Rattle.bf_recover.proofs.laws.a_replay_runs_entries.Goals as goal

pub returns : goal.returns
returns c = runs_entries 0
