use Rattle.std.proofs.Common.{Bool, List, [], ◌∷◌, ◌++◌, filter, get_or, take, sym, ap, ◌∙◌, append_assoc}
use Rattle.bf_base.specs.declared.granule.Granule.{Granule}
use Rattle.bf_base.specs.declared.granule.Place.TheVariants.{Row}
use Rattle.bf_sql.specs.migrations.Granules.{granule}
use Rattle.bf_transpose.specs.Scans.{gives, granules_at}
use Rattle.bf_transpose.proofs.Steps.{listed_tested}
use Rattle.bf_transpose.proofs.scan.Search.add_at.Goals as goal

pub loop-position-preserved : goal.loop-position-preserved
loop-position-preserved c =
    let s = c.args.self.now in
    let test : Granule → Bool = gives s.migration.now s.target s.cond.now in
    let unit = c.args.unit in
    let positions = c.args.positions.now in
    let n = c.loop-position.position-index in
    let before = c.args.granules.now.items in
    let next : List Granule = filter test (granule unit (Row (get_or positions n 0)) ∷ []) in
    c.in_ok-add.ensures
    ∙ (ap (λ (gs : List Granule). gs ++ next) c.loop-position.invariant
    ∙ (append_assoc before (filter test (granules_at unit (take n positions))) next ∙ ap (λ (gs : List Granule). before ++ gs) (sym (listed_tested unit test positions n c.loop-position-test.true))))
