use Rattle.std.proofs.Common.{◌≡◌, ◌&&◌, ◌==◌, List, [], get_or, sym, ap, ◌∙◌}
use Rattle.std.specs.List.{list_any}
use Rattle.std.proofs.lemmas.List.{get_or_default}
use Rattle.std.proofs.lemmas.Result.{IfOk-weaker}
use Rattle.bf_tree.specs.declared.migration.Target.{Target}
use Rattle.bf_sql.specs.migrations.Need.{may_satisfy, total_places}
use Rattle.bf_image.specs.Migrations.{target_at}
use Rattle.bf_transpose.proofs.Told.{any_by_number}
use Rattle.bf_transpose.proofs.owning.gives.Goals as goal

pub returns : goal.returns
returns c =
    let m = c.args.migration.now in
    let target = c.args.target in
    let cond = c.args.cond.now in
    let t = target_at m target in
    let rows = c.in_ok-rows.rows.items in
    let written : c.index-as_slice-target.result ≡ t =
    c.index-as_slice-target.is ∙ ap (λ (ts : List Target). get_or ts target c.index-as_slice-target.result) c.as_slice.ensures
    ∙ get_or_default m.plan.migrate.targets target c.index-as_slice-target.result (record { name = []; arms = [] }) c.requires.there in
    let totals = sym (c.deref-2.ensures.value ∙ c.in_ok-totals.ensures ∙ ap total_places written) in
    let told = any_by_number m c.requires.lawful target c.requires.there (may_satisfy cond t) c.args.granule.now rows c.in_ok-rows.ensures in
    IfOk-weaker c.has_picked.result _ _
    (λ found is. is t totals ∙ ap (list_any (λ row. row.0 == target && may_satisfy cond t row.1)) c.deref.ensures.value ∙ sym told)
    c.has_picked.ensures
