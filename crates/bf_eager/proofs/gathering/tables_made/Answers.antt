-- The rows of all parts, sorted by their numbers, are the images.
use Rattle.std.proofs.Common.{◌≡◌, List, map, ap, ◌∙◌}
use Rattle.std.specs.Global.{Vec}
use Rattle.std.proofs.lemmas.Result.{IfOk-weaker}
use Rattle.bf_tree.specs.declared.plan.Plan.{Plan}
use Rattle.bf_eager.specs.Flips.{AreMade, Made}
use Rattle.bf_image.specs.Migrations.{old_of}
use Rattle.bf_eager.specs.Sorting.{Sorted, rows_made, table_alone, with_rows}
use Rattle.bf_eager.proofs.Made.{all_made}
use Rattle.bf_eager.proofs.Numbering.{sorted_all}
use Rattle.bf_eager.proofs.gathering.tables_made.Goals as goal

pub returns : goal.returns
returns c =
    let m = c.args.migration.now in
    let rows = c.in_ok-rows.rows.items in
    IfOk-weaker c.sorted.result (λ (made : Vec Made). rows_made made.items ≡ with_rows (rows_made c.in_ok-tables.tables.items) rows) (λ (made : Vec Made). AreMade (old_of m) m.plan.migrate.targets made.items)
    (λ made is. all_made m c.requires rows c.in_ok-rows.ensures made.items
    (is ∙ (ap (λ (tables : List Sorted). with_rows tables rows) (c.in_ok-tables.ensures ∙ ap (λ (p : Plan). map table_alone p.tables) c.requires.planned) ∙ sorted_all _ rows)))
    c.sorted.ensures
