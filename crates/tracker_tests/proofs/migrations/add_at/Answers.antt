use Rattle.std.proofs.Common.{[], List, subst, sym, ◌∙◌}
use Rattle.bf_base.specs.declared.granule.Granule.{Granule}
use Rattle.bf_store.specs.States.{AreGranules}
use Rattle.bf_store.specs.Stores.{migration_of}
use Rattle.bf_trackers.proofs.Anchored.{anchored_granule}
use Rattle.bf_trackers.proofs.Rising.{granules_with}
use Rattle.tracker_tests.proofs.migrations.add_at.Goals as goal

pub returns-in_ok-add_in_order-in-Some-clause-of_it : goal.returns-in_ok-add_in_order-in-Some-clause-of_it
returns-in_ok-add_in_order-in-Some-clause-of_it c =
    let m = c.args.migration.now in
    let one = anchored_granule m c.args.unit c.args.anchor c.in-Some.granule (sym c.in_ok-granule.ensures ∙ c.in-Some.is) in
    subst (λ (gs : List Granule). AreGranules (migration_of m []) gs) (sym c.in_ok-add_in_order-in-Some.ensures.added) (granules_with m c.args.all.now.items c.in-Some.granule c.requires.rising c.requires.of_it one)
