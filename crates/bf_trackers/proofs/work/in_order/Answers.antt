use Rattle.bf_drive.specs.Lists.{granules_in}
use Rattle.bf_trackers.proofs.Works.{next_in_order, rising_so_far}
use Rattle.bf_trackers.proofs.work.in_order.Goals as goal

pub add_in_order-requires : goal.add_in_order-requires
add_in_order-requires c = record {
  rising = rising_so_far (granules_in c.args.wip.now) c.len.ensures.sound.different c.loop-index.index c.loop-index.granules.items c.loop-index.invariant;
}

pub loop-index-preserved : goal.loop-index-preserved
loop-index-preserved c =
    next_in_order (granules_in c.args.wip.now) c.len.ensures.sound.different c.loop-index.index c.in-Some.granule.now c.in_ok-copy.field-0 c.loop-index.granules.items _
    c.in_ok-add_in_order.ensures.added c.in_ok-copy.ensures c.loop-index.invariant c.in-Some.ensures
