use Rattle.bf_run.proofs.Sizing.{events_sized}
use Rattle.bf_run.proofs.journal_laws.a_size_that_is_told_is_that_of_a_record.Goals as goal

pub returns : goal.returns
returns g c = λ start m next j k keeps kept. (events_sized (λ j. j.log) start m j next k keeps kept).1
