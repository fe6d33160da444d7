use Rattle.bf_recover.proofs.Freeing.{never_pending, none_pending}
use Rattle.bf_recover.proofs.free_keys.is_running.Goals as goal

pub returns-in-Never : goal.returns-in-Never
returns-in-Never c = λ _. never_pending c.args.store.now.lazy.last c.in-Never.ensures

pub returns-in-Complete : goal.returns-in-Complete
returns-in-Complete c = λ _. none_pending c.args.store.now.lazy.last c.in-Complete.migration c.in-Complete.moved c.in-Complete.ensures
