use Rattle.std.proofs.Common.{subst, sym}
use Rattle.bf_bench.specs.Notes.{Stands}
use Rattle.bf_trackers.specs.Holding.{HoldClaims}
use Rattle.bf_trackers.specs.Migrations.{AreOf, Trackers}
use Rattle.bf_trackers.specs.Units.{HasPlace}
use Rattle.bf_trackers.proofs.Granules.{has_place}
use Rattle.bf_trackers.proofs.Lifting.{lift_stands}
use Rattle.bf_trackers.proofs.trackers.Trackers.claim.Goals as goal

pub claim-requires-clause-place : goal.claim-requires-clause-place
claim-requires-clause-place g c =
    subst (λ (w : Trackers). HasPlace w.units c.args.granule.now) (sym c.self.view_is)
    (has_place c.args.self.now.pass.value c.args.granule.now c.requires.one c.args.self.now.units (subst (λ (w : Trackers). AreOf w.pass.value w.units) c.self.view_is c.self.invariant))

pub returns-clause-holds : goal.returns-clause-holds
returns-clause-holds g c =
    lift_stands c.args.self.now c.args.granule.now c.args.seats.now c.claim.new.seats c.claim.result c.requires.one
    (subst (λ (w : Trackers). Stands (HoldClaims w.units) c.args.granule.now c.args.seats.now c.claim.new.seats c.claim.result) c.self.view_is c.claim.ensures.holds)
