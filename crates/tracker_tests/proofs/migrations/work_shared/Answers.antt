use Rattle.std.proofs.Common.{[], subst, sym}
use Rattle.bf_store.specs.States.{AreGranules}
use Rattle.bf_store.specs.Stores.{migration_of}
use Rattle.bf_trackers.specs.Migrations.{Trackers}
use Rattle.tracker_tests.proofs.migrations.work_shared.Goals as goal

pub work-requires-clause-of_it : goal.work-requires-clause-of_it
work-requires-clause-of_it g c = subst (λ (t : Trackers). AreGranules (migration_of t.pass.value []) c.args.granules.now) (sym c.deref.ensures) c.requires.of_it
