use Rattle.bf_recover.proofs.MovingOnce.{anew, once}
use Rattle.bf_recover.proofs.laws.no_granule_moves_twice.Goals as goal

pub returns-clause-once : goal.returns-clause-once
returns-clause-once c = once

pub returns-clause-anew : goal.returns-clause-anew
returns-clause-anew c = anew
