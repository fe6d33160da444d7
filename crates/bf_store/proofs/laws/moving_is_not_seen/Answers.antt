use Rattle.bf_store.proofs.moving.Moves.{moves}
use Rattle.bf_store.proofs.laws.moving_is_not_seen.Goals as goal

pub returns : goal.returns
returns c = moves
