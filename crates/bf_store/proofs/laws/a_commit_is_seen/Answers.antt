use Rattle.bf_store.proofs.Calls.{commit_seen, open_behind_commit}
use Rattle.bf_store.proofs.laws.a_commit_is_seen.Goals as goal

pub returns : goal.returns
returns c = record { committed = commit_seen; others = open_behind_commit }
