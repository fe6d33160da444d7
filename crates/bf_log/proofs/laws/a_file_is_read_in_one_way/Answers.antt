use Rattle.bf_log.proofs.OneReading.{one_log, one_fault, not_both}
use Rattle.bf_log.proofs.SomeReading.{some_reading}
use Rattle.bf_log.proofs.laws.a_file_is_read_in_one_way.Goals as goal

pub returns-clause-some : goal.returns-clause-some
returns-clause-some c = some_reading

pub returns-clause-one_log : goal.returns-clause-one_log
returns-clause-one_log c = one_log

pub returns-clause-one_fault : goal.returns-clause-one_fault
returns-clause-one_fault c = one_fault

pub returns-clause-not_both : goal.returns-clause-not_both
returns-clause-not_both c = not_both
