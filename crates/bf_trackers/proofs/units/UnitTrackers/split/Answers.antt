use Rattle.std.proofs.Common.{◌∙◌, map, ap, refl}
use Rattle.bf_trackers.specs.Units.{new_seat_of}
use Rattle.bf_trackers.proofs.Fresh.{new_holds}
use Rattle.bf_trackers.proofs.units.UnitTrackers.split.Goals as goal

pub returns-clause-holds : goal.returns-clause-holds
returns-clause-holds c = new_holds c.args.self.now _ (c.in_ok-units.ensures.new ∙ ap (map new_seat_of) (c.as_slice.ensures.value ∙ c.self.view_is)) refl
