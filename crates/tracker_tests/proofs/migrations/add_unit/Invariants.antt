use Rattle.std.proofs.Common.{[]}
use Rattle.std.specs.Prelude.{IsTrue}
use Rattle.bf_base.specs.Lists.{rises}
use Rattle.bf_store.specs.States.{AreGranules, granule_cmp}
use Rattle.bf_store.specs.Stores.{migration_of}
use Rattle.tracker_tests.proofs.migrations.add_unit.Given as goal

abbrev pub invariant-loop-anchor : goal.invariant-loop-anchor
invariant-loop-anchor l = record {
  rising : IsTrue (rises granule_cmp l.all.items);
  of_it : AreGranules (migration_of l.migration []) l.all.items;
}
