use Rattle.bf_bits.proofs.AsTracker as steps
use Rattle.bf_bits.proofs.rules.tracker_steps.Goals as goal

pub returns-clause-claim : goal.returns-clause-claim
returns-clause-claim c views seat p found view at is = steps.claim views seat p found view at is

pub returns-clause-finish : goal.returns-clause-finish
returns-clause-finish c views seat p found view at has = steps.finish views seat p found view at has

pub returns-clause-give_back : goal.returns-clause-give_back
returns-clause-give_back c views seat p found view at has once = steps.give_back views seat p found view at has once
