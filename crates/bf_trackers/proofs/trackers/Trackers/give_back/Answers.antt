use Rattle.std.proofs.Common.{List, [], ◌∷◌, ◌++◌, subst, sym}
use Rattle.bf_drive.specs.Lists.{Entry}
use Rattle.bf_trackers.specs.Holding.{HoldClaims}
use Rattle.bf_trackers.specs.Migrations.{Trackers}
use Rattle.bf_trackers.proofs.Lifting.{lift_spent}
use Rattle.bf_trackers.proofs.trackers.Trackers.give_back.Goals as goal

pub give_back-requires : goal.give_back-requires
give_back-requires g c =
    let r = c.requires.holds in
    record { holds = (r.0, subst (λ (w : Trackers). HoldClaims w.units c.args.seats.now (r.0 ++ (c.args.granule.now, c.args.claim) ∷ [])) (sym c.self.view_is) r.1.held) }

pub returns-clause-holds : goal.returns-clause-holds
returns-clause-holds g c =
    lift_spent c.args.self.now c.args.granule.now c.args.claim c.args.seats.now c.give_back.new.seats
    (subst (λ (w : Trackers). (rest : List Entry) → HoldClaims w.units c.args.seats.now (rest ++ (c.args.granule.now, c.args.claim) ∷ []) → HoldClaims w.units c.give_back.new.seats rest) c.self.view_is c.give_back.ensures.holds)
