use Rattle.std.proofs.Common.{sym, subst}
use Rattle.bf_base.specs.declared.granule.Granule.{Granule}
use Rattle.bf_trackers.specs.Units.{HasPlace}
use Rattle.tracker_tests.proofs.Placed.{row_place, value_place}
use Rattle.tracker_tests.proofs.trackers.work.Goals as goal

pub claim_and_end-requires-clause-place : goal.claim_and_end-requires-clause-place
claim_and_end-requires-clause-place g c =
    subst (λ (granule : Granule). HasPlace c.args.units.now granule) (sym c.row.ensures) (row_place c.args.units.now 5000 c.loop-at.at c.requires.shapes c.loop-at-test.true)

pub claim_and_end-requires-in-loop-at-clause-place : goal.claim_and_end-requires-in-loop-at-clause-place
claim_and_end-requires-in-loop-at-clause-place g c = value_place c.args.units.now 5000 _ c.in_ok-value.value c.in_ok-value.ensures c.requires.shapes
