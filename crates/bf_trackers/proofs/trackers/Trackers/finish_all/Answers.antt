use Rattle.std.proofs.Common.{[], subst, sym}
use Rattle.bf_trackers.specs.Holding.{HoldClaims}
use Rattle.bf_trackers.specs.Migrations.{Trackers}
use Rattle.bf_trackers.proofs.trackers.Trackers.finish_all.Goals as goal

pub finish_all-requires : goal.finish_all-requires
finish_all-requires g c = record { holds = subst (λ (w : Trackers). HoldClaims w.units c.args.seats.now c.args.wip) (sym c.self.view_is) c.requires.holds.held }

pub returns-clause-spent : goal.returns-clause-spent
returns-clause-spent g c = record {
  held = subst (λ (w : Trackers). HoldClaims w.units c.finish_all.new.seats []) c.self.view_is c.finish_all.ensures.spent;
  each = tt;
}
