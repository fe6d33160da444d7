use Rattle.std.proofs.Common.{List, subst, sym}
use Rattle.boxcar.specs.Table.{Where}
use Rattle.bf_base.specs.declared.granule.Granule.{Granule}
use Rattle.bf_drive.specs.Lists.{granules_in}
use Rattle.bf_image.specs.declared.migration.Migration.{Migration}
use Rattle.bf_trackers.specs.Ordered.{by_place}
use Rattle.bf_trackers.specs.Works.{IsWork}
use Rattle.bf_trackers.proofs.Works.{is_work}
use Rattle.bf_trackers.proofs.work.Work.of.Goals as goal

pub invariant_of-result : goal.invariant_of-result
invariant_of-result c =
    let unit = c.requires.unit in
    subst (λ (gs : List Granule). IsWork c.copy.result c.args.wip gs) (sym c.in-Ok.ensures.sorted)
    (subst (λ (p : Where Migration). IsWork p c.args.wip (by_place (granules_in c.args.wip))) (sym c.copy.ensures)
    (is_work c.args.pass.now c.args.wip c.in_order.ensures.sound c.requires.each c.requires.some unit.0 unit.1))
