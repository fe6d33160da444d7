use Rattle.bf_store.proofs.moving.Needing.{need_is_quiet, need_has_moved}
use Rattle.bf_store.proofs.laws.a_need_moves_first.Goals as goal

pub returns : goal.returns
returns c = record { quiet = need_is_quiet; moved = need_has_moved }
