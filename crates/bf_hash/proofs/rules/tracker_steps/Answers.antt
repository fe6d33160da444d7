use Rattle.bf_hash.proofs.Changes as changes
use Rattle.bf_hash.proofs.rules.tracker_steps.Goals as goal

pub returns-clause-grant : goal.returns-clause-grant
returns-clause-grant c stripe key claim is = changes.grant stripe key claim is

pub returns-clause-finish : goal.returns-clause-finish
returns-clause-finish c stripe claim is = changes.finish stripe claim is

pub returns-clause-give_back : goal.returns-clause-give_back
returns-clause-give_back c stripe claim is = changes.give_back stripe claim is

pub returns-clause-not_held : goal.returns-clause-not_held
returns-clause-not_held c stripe claim differs = changes.not_held stripe claim differs
