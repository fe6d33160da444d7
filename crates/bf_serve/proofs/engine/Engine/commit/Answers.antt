use Rattle.bf_serve.proofs.threads.Going.{goes_keeping}
use Rattle.bf_serve.proofs.engine.Engine.commit.Goals as goal

pub invariant_of-self-2 : goal.invariant_of-self-2
invariant_of-self-2 g c =
    let i = c.self.invariant in
    let m = c.self.inside.machine in
    let goes = goes_keeping g.J.Journal.Answers g.N.Opened.opening g.N.Beginning.begins g.N.Opened.registry m c.self.inside.journal c.self.inside.catalog i.0 i.3
    c.commit.new.machine c.commit.new.journal c.commit.new.catalog c.commit.ensures.keeps c.commit.ensures.present in
    (goes.0, i.1, i.2, goes.1)
