use Rattle.std.proofs.Common.{[], subst}
use Rattle.std.specs.Prelude.{IfOk}
use Rattle.bf_trackers.specs.Holding.{HoldClaims}
use Rattle.bf_trackers.specs.Migrations.{Trackers}
use Rattle.bf_trackers.specs.Seats.{Seats}
use Rattle.bf_trackers.proofs.Lifting.{lift_new}
use Rattle.bf_trackers.proofs.trackers.Trackers.split.Goals as goal

pub returns-clause-holds : goal.returns-clause-holds
returns-clause-holds c =
    lift_new c.args.self.now c.split.result (subst (λ (w : Trackers). IfOk c.split.result (λ (seats : Seats). HoldClaims w.units seats [])) c.self.view_is c.split.ensures.holds)
