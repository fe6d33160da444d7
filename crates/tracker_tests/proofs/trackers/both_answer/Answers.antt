use Rattle.std.proofs.Common.{sym, subst}
use Rattle.bf_base.specs.declared.granule.Granule.{Granule}
use Rattle.bf_trackers.specs.Units.{HasPlace}
use Rattle.tracker_tests.proofs.Placed.{row_place, value_place}
use Rattle.tracker_tests.proofs.trackers.both_answer.Goals as goal

pub claim_and_end-requires-clause-place : goal.claim_and_end-requires-clause-place
claim_and_end-requires-clause-place g c =
    subst (λ (granule : Granule). HasPlace c.args.units.now granule) (sym c.row.ensures) (row_place c.args.units.now 40 c.args.number c.requires.shapes c.requires.within)

pub claim_and_end-requires-2-clause-place : goal.claim_and_end-requires-2-clause-place
claim_and_end-requires-2-clause-place g c = value_place c.args.units.now 40 _ c.in_ok-granule.granule c.in_ok-granule.ensures c.requires.shapes
