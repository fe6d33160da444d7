use Rattle.bf_journal.proofs.Answering.{answered}
use Rattle.bf_journal.proofs.appending.append_change.Goals as goal

pub returns-clause-answered : goal.returns-clause-answered
returns-clause-answered g c = λ state next stands change.
    answered g.L.State.first g.L.State.Steps g.L.State.once g.met.D.Disk.earlier g.met.D.Disk.only_now c.args.log.now c.append.new.self c.args.payload.now state next stands change
    c.append.ensures.told c.append.ensures.later c.append.ensures.any_moment c.append.ensures.stops c.append.ensures.stopped
    c.args.largest c.args.limit c.append.result c.append.ensures.refused c.append.ensures.outcome c.append.ensures.stored
