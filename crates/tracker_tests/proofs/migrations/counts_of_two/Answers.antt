use Rattle.std.proofs.Common.{[], List, ap, subst, sym, ◌∙◌}
use Rattle.boxcar.specs.Table.{Where}
use Rattle.bf_base.specs.declared.granule.Granule.{Granule}
use Rattle.bf_image.specs.declared.migration.Migration.{Migration}
use Rattle.bf_store.specs.States.{AreGranules}
use Rattle.bf_store.specs.Stores.{migration_of}
use Rattle.tracker_tests.proofs.migrations.counts_of_two.Goals as goal

pub work_by_two-requires-clause-of_it : goal.work_by_two-requires-clause-of_it
work_by_two-requires-clause-of_it g c = λ κs outlives.
    subst (λ (gs : List Granule). AreGranules (migration_of c.in_ok-trackers.trackers.pass.value []) gs) (sym c.as_slice.ensures.value)
    (subst (λ (m : Migration). AreGranules (migration_of m []) c.in_ok-granules.granules.items) (c.migration.ensures.read ∙ ap (λ (p : Where Migration). p.value) (sym c.in_ok-trackers.ensures.pass)) c.in_ok-granules.ensures)
