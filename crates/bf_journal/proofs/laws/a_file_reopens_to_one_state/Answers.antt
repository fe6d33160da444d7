use Rattle.bf_journal.proofs.Readings.{reopens_so}
use Rattle.bf_journal.proofs.laws.a_file_reopens_to_one_state.Goals as goal

pub returns : goal.returns
returns g c = λ file state left is other. reopens_so g.L.State.first g.L.State.Steps g.L.State.once file is.0 state left is.1 is.2 other
