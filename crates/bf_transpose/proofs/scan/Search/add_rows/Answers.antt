-- Where each row gives what is sought, none of them is left out.
use Rattle.std.proofs.Common.{List, ◌++◌, sym, ap, ◌∙◌}
use Rattle.std.proofs.lemmas.Result.{on_ok_weaker}
use Rattle.bf_base.specs.declared.granule.Granule.{Granule}
use Rattle.bf_image.specs.Migrations.{anchors_in}
use Rattle.bf_transpose.specs.Scans.{gives, row_granules}
use Rattle.bf_transpose.proofs.Each.{all_rows}
use Rattle.bf_transpose.proofs.scan.Search.add_rows.Goals as goal

pub returns-then-gives_each : goal.returns-then-gives_each
returns-then-gives_each c =
    let s = c.args.self.now in
    let m = s.migration.now in
    let unit = c.args.unit in
    let before = c.args.granules.now.items in
    on_ok_weaker c.add_rows.result
    (λ added. added ∙ ap (λ (gs : List Granule). before ++ gs)
    (ap (row_granules unit) c.positions.ensures
    ∙ sym (all_rows unit (gives m s.target s.cond.now) (anchors_in m unit) (c.gives_each.ensures c.if-gives_each.true))))
    c.add_rows.ensures
