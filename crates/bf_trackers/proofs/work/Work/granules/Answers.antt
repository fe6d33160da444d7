use Rattle.std.proofs.Common.{List, [], subst, sym}
use Rattle.bf_base.specs.declared.granule.Granule.{Granule}
use Rattle.bf_store.specs.States.{AreGranules}
use Rattle.bf_store.specs.Stores.{migration_of}
use Rattle.bf_trackers.specs.Works.{Work}
use Rattle.bf_trackers.proofs.work.Work.granules.Goals as goal

pub returns-clause-of_it : goal.returns-clause-of_it
returns-clause-of_it c =
    subst (λ (gs : List Granule). AreGranules (migration_of c.args.self.now.pass.value []) gs) (sym c.as_slice.ensures.value)
    (subst (λ (w : Work). AreGranules (migration_of w.pass.value []) c.self.inside.granules.items) c.self.view_is c.self.invariant.of_it)
