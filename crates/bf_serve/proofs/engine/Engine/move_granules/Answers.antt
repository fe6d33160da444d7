-- Machine and journal have come on by the move; where it was made, its granules have moved in this run.
use Rattle.std.proofs.Common.{Bool, ap, sym, subst}
use Rattle.std.specs.Prelude.{Ok}
use Rattle.bf_machine.specs.interleaving.Machines.{Machine}
use Rattle.bf_trackers.specs.Works.{Work}
use Rattle.bf_serve.specs.Come.{HasMoved}
use Rattle.bf_serve.proofs.threads.Going.{goes_moving}
use Rattle.bf_serve.proofs.engine.Engine.move_granules.Goals as goal

pub invariant_of-self : goal.invariant_of-self
invariant_of-self g c =
    let i = c.self.invariant in
    let m = c.self.inside.machine in
    let goes = goes_moving g.J.Journal.Answers g.N.Opened.opening g.N.Beginning.begins g.N.Opened.registry m c.self.inside.journal c.self.inside.catalog i.0 i.3
    c.move_for-has_moved.new.machine c.move_for-has_moved.new.journal c.move_for-has_moved.ensures.keeps c.move_for-has_moved.ensures.same in
    (goes.0, i.1, i.2, goes.1)

pub invariant_of-result : goal.invariant_of-result
invariant_of-result g c =
    let i = c.self.invariant in
    let m : Machine = c.self.inside.machine in
    let next : Machine = c.move_for-has_moved.new.machine in
    let l = c.move_for-has_moved.new.journal in
    let Answers = g.J.Journal.Answers in
    let start = g.N.Opened.opening in
    let begins = g.N.Beginning.begins in
    let goes = goes_moving Answers start begins g.N.Opened.registry m c.self.inside.journal c.self.inside.catalog i.0 i.3 next l c.move_for-has_moved.ensures.keeps c.move_for-has_moved.ensures.same in
    let has = ap (λ (b : Bool). Ok b) c.if-not-branch.false in
    let moved : HasMoved Answers start begins c.args.work.now.pass c.args.work.now.granules = record {
      m = m;
      next = next;
      l = l;
      of_it = c.in_ok-has_moved.ensures.of_it has;
      by = c.in_ok-has_moved.ensures.moves has;
      come = goes.0;
    } in
    record { moved = subst (λ (w : Work). ∥ HasMoved Answers start begins w.pass w.granules ∥₁) (sym c.of.ensures) ∣ moved ∣₁ }
