use Rattle.std.proofs.Common.{[], subst, sym}
use Rattle.bf_store.specs.States.{AreGranules}
use Rattle.bf_store.specs.Stores.{migration_of}
use Rattle.bf_trackers.specs.Migrations.{Trackers}
use Rattle.tracker_tests.proofs.migrations.work_by_two.Goals as goal

pub work_joined-requires-clause-mine : goal.work_joined-requires-clause-mine
work_joined-requires-clause-mine g c = λ κs outlives. subst (λ (t : Trackers). AreGranules (migration_of t.pass.value []) c.args.granules.now) (sym c.in_ok-one.ensures.one) c.requires.of_it

pub work_joined-requires-clause-theirs : goal.work_joined-requires-clause-theirs
work_joined-requires-clause-theirs g c = λ κs outlives. subst (λ (t : Trackers). AreGranules (migration_of t.pass.value []) c.args.granules.now) (sym c.in_ok-one.ensures.two) c.requires.of_it
