use Rattle.std.proofs.Common.{List, [], ◌∷◌, ◌++◌, sym, ap, ◌∙◌, append_assoc}
use Rattle.bf_base.specs.declared.granule.Granule.{Granule}
use Rattle.bf_base.specs.declared.granule.Place.TheVariants.{Row}
use Rattle.bf_sql.specs.migrations.Granules.{granule}
use Rattle.bf_transpose.specs.Scans.{row_granules}
use Rattle.bf_transpose.proofs.Steps.{row_more}
use Rattle.bf_transpose.proofs.scan.add_rows.Goals as goal

pub loop-position-preserved : goal.loop-position-preserved
loop-position-preserved c =
    let unit = c.args.unit in
    let n = c.loop-position.position in
    let before = c.args.granules.now.items in
    let next : List Granule = granule unit (Row n) ∷ [] in
    c.in_ok-push.ensures.items
    ∙ (ap (λ (gs : List Granule). gs ++ next) c.loop-position.invariant
    ∙ (append_assoc before (row_granules unit n) next ∙ ap (λ (gs : List Granule). before ++ gs) (sym (row_more unit n))))
