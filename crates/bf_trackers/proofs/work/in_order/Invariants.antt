use Rattle.std.proofs.Common.{◌≡◌, take}
use Rattle.bf_drive.specs.Lists.{granules_in}
use Rattle.bf_trackers.specs.Ordered.{by_place}
use Rattle.bf_trackers.proofs.work.in_order.Given as goal

abbrev pub invariant-loop-index : goal.invariant-loop-index
invariant-loop-index l = l.granules.items ≡ by_place (take l.index (granules_in l.wip))
