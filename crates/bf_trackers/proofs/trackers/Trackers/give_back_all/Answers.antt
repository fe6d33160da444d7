use Rattle.std.proofs.Common.{[], subst, sym}
use Rattle.bf_trackers.specs.Holding.{HoldClaims}
use Rattle.bf_trackers.specs.Migrations.{Trackers}
use Rattle.bf_trackers.proofs.trackers.Trackers.give_back_all.Goals as goal

pub give_back_all-requires : goal.give_back_all-requires
give_back_all-requires g c = record { holds = subst (λ (w : Trackers). HoldClaims w.units c.args.seats.now c.args.wip) (sym c.self.view_is) c.requires.holds.held }

pub returns-clause-spent : goal.returns-clause-spent
returns-clause-spent g c = record {
  held = subst (λ (w : Trackers). HoldClaims w.units c.give_back_all.new.seats []) c.self.view_is c.give_back_all.ensures.spent;
  each = tt;
}
