use Rattle.std.proofs.Common.{[], ◌∷◌, ap, sym, ◌∙◌}
use Rattle.std.specs.Option.{option_map, option_to_list}
use Rattle.std.proofs.lemmas.Result.{IfOk-weaker}
use Rattle.bf_sql.specs.migrations.Images.{arm_rows}
use Rattle.bf_image.specs.Migrations.{old_of}
use Rattle.bf_image.proofs.parting.MetRows.{rows_of_bound}
use Rattle.bf_image.proofs.meeting.row_of_driver.Goals as goal

pub returns-then-ne-clause-from : goal.returns-then-ne-clause-from
returns-then-ne-clause-from c =
    IfOk-weaker c.row_made.result _ _
    (λ made is m target arm lawful frozen by_from.
    is ∙ rows_of_bound m target arm c.args.bound.now frozen (c.args.row.now ∷ []) (option_to_list (option_map (λ row. row.now) c.in_ok-met.met))
    ∙ ap (arm_rows (old_of m) arm (c.args.row.now ∷ [])) (c.in_ok-met.ensures m target arm lawful frozen))
    c.row_made.ensures

pub returns-in-Some-clause-join : goal.returns-in-Some-clause-join
returns-in-Some-clause-join c =
    IfOk-weaker c.row_made-in-Some.result _ _
    (λ made is m target arm lawful frozen by_join.
    is ∙ rows_of_bound m target arm c.args.bound.now frozen (c.in-Some.met.now ∷ []) (c.args.row.now ∷ [])
    ∙ ap (λ from. arm_rows (old_of m) arm from (c.args.row.now ∷ []))
    (ap (λ met. option_to_list (option_map (λ row. row.now) met)) (sym c.in-Some.is) ∙ c.in_ok-met-2.ensures m target arm lawful frozen by_join))
    c.row_made-in-Some.ensures
