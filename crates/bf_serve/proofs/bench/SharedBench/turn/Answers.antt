-- What a statement needs is of the migration at whose trackers the seat is.
use Rattle.std.proofs.Common.{subst}
use Rattle.bf_serve.specs.Steps.{AreToMove, IsStep}
use Rattle.bf_serve.specs.declared.shared.Step.{Step}
use Rattle.bf_trackers.proofs.Rising.{different}
use Rattle.bf_serve.proofs.Seated.{of_seat, some_if_any}
use Rattle.bf_serve.proofs.bench.SharedBench.turn.Goals as goal

pub note-requires : goal.note-requires
note-requires g c =
    let step : AreToMove g.N.Opened.registry c.in-Need.pass c.in-Need.granules.items = subst (λ (s : Step). IsStep g.N.Opened.registry s) c.in-Need.is c.in_ok-step.ensures in
    of_seat c.take_seat.new.seats.seat c.in-Need.pass.value c.in-Need.granules.items (c.in_ok-take_seat-in-Need.ensures.seated c.if-not-branch.false) step.each

pub returns-else-not-branch-clause-each : goal.returns-else-not-branch-clause-each
returns-else-not-branch-clause-each g c =
    let step : AreToMove g.N.Opened.registry c.in-Need.pass c.in-Need.granules.items = subst (λ (s : Step). IsStep g.N.Opened.registry s) c.in-Need.is c.in_ok-step.ensures in
    (different c.in-Need.granules.items step.ordered, some_if_any c.in-Need.granules.items step.some)
