use Rattle.std.proofs.Common.{List, sym, subst}
use Rattle.bf_sql.specs.migrations.Granules.{granules_of, same_granule}
use Rattle.bf_sql.specs.migrations.Lazy.{DoneGranule}
use Rattle.bf_base.specs.Lists.{has}
use Rattle.bf_image.specs.Migrations.{old_of}
use Rattle.bf_store.specs.Anchors.{AreOf}
use Rattle.bf_store.specs.Marks.{granules_in}
use Rattle.bf_store.proofs.Marking.{each_marked}
use Rattle.bf_store.proofs.movement.note.Goals as goal

pub next_if_few-requires-clause-done : goal.next_if_few-requires-clause-done
next_if_few-requires-clause-done c =
    let m = c.args.migration.now in
    let all = each_marked (has same_granule (granules_of (old_of m) m.plan.migrate)) c.args.done.now c.args.fresh.now c.args.number c.requires.done c.requires.granules in
    subst (λ (done : List DoneGranule). AreOf m (granules_in done)) (sym c.in_ok-mark.ensures.ok) all
