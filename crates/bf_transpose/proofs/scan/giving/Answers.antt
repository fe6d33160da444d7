-- What the condition's part without totals picks is what the whole may pick.
use Rattle.std.proofs.Common.{◌≡◌, List, get_or, sym, ap, ◌∙◌}
use Rattle.std.proofs.lemmas.List.{get_or_default}
use Rattle.std.proofs.lemmas.Result.{IfOk-weaker}
use Rattle.bf_tree.specs.declared.migration.Target.{Target}
use Rattle.bf_sql.specs.migrations.Need.{total_places}
use Rattle.bf_image.specs.Migrations.{target_at}
use Rattle.bf_transpose.proofs.Alike.{given_alike}
use Rattle.bf_transpose.proofs.scan.giving.Goals as goal

pub returns : goal.returns
returns c =
    let m = c.args.migration.now in
    let number = c.args.target in
    let written = c.index-as_slice-target.result in
    let is : written ≡ target_at m number =
    c.index-as_slice-target.is ∙ (ap (λ (ts : List Target). get_or ts number written) c.as_slice.ensures ∙ get_or_default m.plan.migrate.targets number written _ c.requires.there) in
    let known : total_places (target_at m number) ≡ c.deref.result.now = ap total_places (sym is) ∙ (sym c.in_ok-totals.ensures ∙ sym c.deref.ensures.value) in
    IfOk-weaker c.granules.result _ _
    (λ granules found. found ∙ given_alike m number c.in_ok-cond.cond c.args.cond.now (λ row. c.in_ok-cond.ensures (target_at m number) row known))
    c.granules.ensures
