use Rattle.bf_recover.proofs.Recorded.{recorded, recorded_once}
use Rattle.bf_recover.proofs.laws.no_log_moves_a_granule_twice.Goals as goal

pub returns-clause-legal : goal.returns-clause-legal
returns-clause-legal c = recorded

pub returns-clause-once : goal.returns-clause-once
returns-clause-once c = recorded_once
