use Rattle.std.specs.Prelude.{IsTrue}
use Rattle.bf_base.specs.Lists.{rises}
use Rattle.bf_store.specs.States.{granule_cmp}
use Rattle.tracker_tests.proofs.migrations.add_each.Given as goal

abbrev pub invariant-loop-granule : goal.invariant-loop-granule
invariant-loop-granule l = IsTrue (rises granule_cmp l.all.items)
