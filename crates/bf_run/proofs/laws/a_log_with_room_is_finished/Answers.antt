use Rattle.bf_run.proofs.Finished.{with_room}
use Rattle.bf_run.proofs.laws.a_log_with_room_is_finished.Goals as goal

pub returns : goal.returns
returns c = λ bytes last is room. with_room bytes last is room
