-- The granules so far rise, are the migration's, of its unit, and no more than were asked for.
use Rattle.std.proofs.Common.{◌≡◌, ◌≤◌, [], length}
use Rattle.std.specs.Prelude.{IsTrue}
use Rattle.std.specs.List.{AllByRecursion}
use Rattle.bf_base.specs.Lists.{rises}
use Rattle.bf_store.specs.States.{AreGranules, granule_cmp}
use Rattle.bf_store.specs.Stores.{migration_of}
use Rattle.bf_serve.proofs.ahead.granules_between.Given as goal

abbrev pub invariant-loop-anchor : goal.invariant-loop-anchor
invariant-loop-anchor l =
    AreGranules (migration_of l.migration []) l.granules.items × IsTrue (rises granule_cmp l.granules.items) × (length l.granules.items ≤ l.most)
    × AllByRecursion (λ g. g.unit ≡ l.anchors.unit) l.granules.items
