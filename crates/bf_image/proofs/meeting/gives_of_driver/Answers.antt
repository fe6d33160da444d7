use Rattle.std.proofs.Common.{[], ◌∷◌, ap, sym, ◌∙◌}
use Rattle.std.specs.Option.{option_map, option_to_list}
use Rattle.std.proofs.lemmas.Result.{IfOk-weaker}
use Rattle.bf_sql.specs.migrations.Images.{arm_rows}
use Rattle.bf_image.specs.Giving.{has_any}
use Rattle.bf_image.specs.Migrations.{old_of}
use Rattle.bf_image.proofs.parting.MetRows.{rows_of_bound}
use Rattle.bf_image.proofs.meeting.gives_of_driver.Goals as goal

pub returns-then-ne-clause-from : goal.returns-then-ne-clause-from
returns-then-ne-clause-from c =
    IfOk-weaker c.makes_any.result _ _
    (λ gives is m target arm lawful frozen by_from.
    is ∙ ap has_any
    (rows_of_bound m target arm c.args.bound.now frozen (c.args.row.now ∷ []) (option_to_list (option_map (λ row. row.now) c.in_ok-met.met))
    ∙ ap (arm_rows (old_of m) arm (c.args.row.now ∷ [])) (c.in_ok-met.ensures m target arm lawful frozen)))
    c.makes_any.ensures

pub returns-in-Some-clause-join : goal.returns-in-Some-clause-join
returns-in-Some-clause-join c =
    IfOk-weaker c.makes_any-in-Some.result _ _
    (λ gives is m target arm lawful frozen by_join.
    is ∙ ap has_any
    (rows_of_bound m target arm c.args.bound.now frozen (c.in-Some.met.now ∷ []) (c.args.row.now ∷ [])
    ∙ ap (λ from. arm_rows (old_of m) arm from (c.args.row.now ∷ []))
    (ap (λ met. option_to_list (option_map (λ row. row.now) met)) (sym c.in-Some.is) ∙ c.in_ok-met-2.ensures m target arm lawful frozen by_join)))
    c.makes_any-in-Some.ensures
