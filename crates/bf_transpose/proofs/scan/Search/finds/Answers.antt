use Rattle.std.proofs.Common.{◌≡◌, ℕ, true, sym, ap, subst, ◌∙◌}
use Rattle.std.specs.List.{list_any}
use Rattle.std.proofs.lemmas.Result.{IfOk-weaker}
use Rattle.bf_tree.specs.Trees.{always}
use Rattle.bf_sql.specs.migrations.Granules.{granule}
use Rattle.bf_image.specs.Migrations.{ArePart}
use Rattle.bf_image.specs.declared.migration.Migration.{Migration}
use Rattle.bf_transpose.specs.Scans.{gives, is_sought}
use Rattle.bf_transpose.specs.Transposed.{is_always}
use Rattle.bf_transpose.proofs.Alike.{given_any}
use Rattle.bf_transpose.proofs.Sought.{gives_by_number, none_at_place}
use Rattle.bf_transpose.proofs.scan.Search.finds.Goals as goal

pub returns-in_default : goal.returns-in_default
returns-in_default c =
    let s = c.args.self.now in
    let here = c.args.granule.now in
    sym (none_at_place s.migration.now c.requires.lawful s.target c.requires.there s.cond.now here.unit c.in_default.ensures here.place)

pub returns-then-is_always : goal.returns-then-is_always
returns-then-is_always c =
    let s = c.args.self.now in
    let m = s.migration.now in
    let here = c.args.granule.now in
    let is_true : is_always s.cond.now ≡ true = sym c.is_always.ensures ∙ c.if-is_always.true in
    IfOk-weaker c.gives_any.result _ _
    (λ any is. is ∙ (ap (λ (number : ℕ). gives m s.target always (granule number here.place)) c.in-Some.ensures.1 ∙ given_any m s.target s.cond.now is_true here))
    c.gives_any.ensures

pub returns : goal.returns
returns c =
    let s = c.args.self.now in
    let m = s.migration.now in
    let cond = s.cond.now in
    let here = c.args.granule.now in
    let unit = c.in-Some.unit.now in
    let rows = c.in_ok-rows.rows.items in
    let of_migration : ArePart m (granule unit.number here.place) rows = subst (λ (n : Migration). ArePart n (granule unit.number here.place) rows) c.in-Some.ensures.0.of c.in_ok-rows.ensures in
    let part : ArePart m here rows = subst (λ (number : ℕ). ArePart m (granule number here.place) rows) c.in-Some.ensures.1 of_migration in
    IfOk-weaker c.is_among.result _ _
    (λ found is. is ∙ (ap (list_any (is_sought m s.target cond)) c.deref.ensures.value ∙ gives_by_number m c.requires.lawful s.target c.requires.there cond here rows part))
    c.is_among.ensures
