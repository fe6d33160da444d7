use Rattle.bf_journal.proofs.GivenUp.{given_up_fails}
use Rattle.bf_journal.proofs.appending.give_up.Goals as goal

pub returns-clause-fails : goal.returns-clause-fails
returns-clause-fails g c = λ state next older stores.
    given_up_fails g.L.State.first g.L.State.Steps older c.args.log.now c.give_up.new.self state next stores c.give_up.ensures.disk c.give_up.ensures.spent.standing
