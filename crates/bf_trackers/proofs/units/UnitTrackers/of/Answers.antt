use Rattle.std.proofs.Common.{refl, arith}
use Rattle.std.proofs.lemmas.Option.{slice_get-get_or}
use Rattle.bf_trackers.proofs.Fresh.{made_holds, next_made}
use Rattle.bf_trackers.proofs.units.UnitTrackers.of.Goals as goal

pub returns-clause-holds : goal.returns-clause-holds
returns-clause-holds c = made_holds c.args.done.now _ _ _ c.loop-number.invariant.made refl

pub loop-number-preserved : goal.loop-number-preserved
loop-number-preserved c = record {
  made = next_made c.args.shapes.now c.args.done.now c.loop-number.number _ c.loop-number.units.items _ c.loop-number.seats.items _ c.in_ok-unit.unit c.in_ok-unit.seat
      (slice_get-get_or c.args.shapes.now c.loop-number.number _ c.loop-number-test.true) c.loop-number.invariant.as_many c.loop-number.invariant.made
      c.in_ok-unit.ensures.shape c.in_ok-unit.ensures.seat c.in_ok-push.ensures.items c.in_ok-push-2.ensures.items;
  as_many = (let one = c.in_ok-push.ensures.len in let before = c.loop-number.invariant.as_many in omega arith);
}
