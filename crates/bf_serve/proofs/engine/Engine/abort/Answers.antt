-- The session stands where its block is rolled back.
use Rattle.std.proofs.Common.{subst}
use Rattle.bf_machine.specs.interleaving.Calls.{StandsAs}
use Rattle.bf_serve.proofs.threads.Going.{goes_by_abort}
use Rattle.bf_serve.proofs.engine.Engine.abort.Goals as goal

pub invariant_of-self-2 : goal.invariant_of-self-2
invariant_of-self-2 g c =
    let i = c.self.invariant in
    let m = c.self.inside.machine in
    let goes = goes_by_abort g.J.Journal.Answers g.N.Opened.opening g.N.Beginning.begins g.N.Opened.registry m c.self.inside.journal c.self.inside.catalog i.0 i.3
    c.abort.new.self c.args.session c.abort.ensures in
    (goes.0, i.1, i.2, goes.1)

pub abort-requires-clause-can : goal.abort-requires-clause-can
abort-requires-clause-can g c = subst (StandsAs c.self.inside.machine c.args.session) c.in-Abort.is c.stand.ensures
