use Rattle.bf_run.proofs.one.Reading.{one_reading}
use Rattle.bf_run.proofs.laws.a_text_has_one_reading.Goals as goal

pub returns : goal.returns
returns c = one_reading
