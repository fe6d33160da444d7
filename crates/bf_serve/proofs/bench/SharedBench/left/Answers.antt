-- The granules at the anchors are of the migration at whose trackers the seat is.
use Rattle.std.proofs.Common.{[], sym, subst, ◌∙◌, arith}
use Rattle.bf_image.specs.declared.migration.Migration.{Migration}
use Rattle.bf_store.specs.States.{AreGranules}
use Rattle.bf_store.specs.Stores.{migration_of}
use Rattle.bf_trackers.proofs.Rising.{different}
use Rattle.bf_serve.proofs.Seated.{of_seat, some_there}
use Rattle.bf_serve.proofs.bench.SharedBench.left.Goals as goal

pub note-requires : goal.note-requires
note-requires g c =
    let granules = c.in_ok-granules.granules.items in
    let are : AreGranules (migration_of c.in-Anchors.anchors.pass.value []) granules =
    subst (λ (m : Migration). AreGranules (migration_of m []) granules) c.migration-last.ensures.read c.in_ok-granules.ensures.each in
    of_seat c.take_seat.new.seats.seat c.in-Anchors.anchors.pass.value granules (c.in_ok-take_seat.ensures.seated c.if-not-branch.false) are

pub returns-clause-each : goal.returns-clause-each
returns-clause-each g c =
    let granules = c.in_ok-granules.granules.items in
    let by = c.in_ok-granules.ensures in
    (different granules by.ordered, some_there granules c.in_ok-granules.granules.len (sym c.is_empty.ensures ∙ c.if-is_empty.false) (omega (arith, c.in_ok-granules.granules.ok.0)), by.few, (c.in-Anchors.anchors.unit, by.of_one_unit))
