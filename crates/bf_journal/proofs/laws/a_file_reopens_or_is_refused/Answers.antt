use Rattle.bf_journal.proofs.Somehow.{some_way}
use Rattle.bf_journal.proofs.laws.a_file_reopens_or_is_refused.Goals as goal

pub returns : goal.returns
returns g c = λ decided. some_way g.L.State.first g.L.State.Steps decided
