use Rattle.std.proofs.Common.{ap, ◌∙◌}
use Rattle.bf_tree.specs.Trees.{column}
use Rattle.bf_tree.specs.declared.plan.PlacedItem.TheVariants as placed
use Rattle.bf_bind.specs.declared.expression.BoundExpr.{BoundExpr}
use Rattle.bf_bind.specs.declared.scope.ColumnPlace.{ColumnPlace}
use Rattle.bf_plan.specs.Items.{judged, judged_total}
use Rattle.bf_plan.proofs.Items.{judged-column, judged-named, judged-total}
use Rattle.bf_plan.proofs.item.bind_item.Goals as goal

pub returns-in_ok-found-in-Column : goal.returns-in_ok-found-in-Column
returns-in_ok-found-in-Column c =
    let place = ap (λ (f : ColumnPlace). judged c.args.columns.now (column f.place)) c.in_ok-found-in-Column.ensures.1 in
    let judgement = c.judged-judgement.ensures ∙ ap (judged c.args.columns.now) c.of.ensures ∙ place ∙ judged-column c.args.scope.now c.args.columns.now c.requires c.in-Column.reference in
    let placed = ap (λ (f : ColumnPlace). placed.Column f.place) c.in_ok-found-in-Column.ensures.1 in
    rw c.in-Column.is
    (c.in_ok-found-in-Column.ensures.0, λ i. (judgement i, placed i))

pub returns-in_ok-bound-in-Named : goal.returns-in_ok-bound-in-Named
returns-in_ok-bound-in-Named c =
    let expr = ap (λ (b : BoundExpr). judged c.args.columns.now b.expr) c.in_ok-bound-in-Named.ensures.1 in
    let judgement = c.judged-judgement-in-Named.ensures ∙ expr ∙ judged-named c.args.scope.now c.args.columns.now c.requires c.in-Named.raw c.in-Named.field-1 in
    let placed = ap (λ (b : BoundExpr). placed.Value b.expr) c.in_ok-bound-in-Named.ensures.1 in
    rw c.in-Named.is
    (c.in_ok-bound-in-Named.ensures.0, λ i. (judgement i, placed i))

pub returns-in_ok-total-in-Total : goal.returns-in_ok-total-in-Total
returns-in_ok-total-in-Total c =
    let judgement =
    c.judged_total-judgement.ensures ∙ ap (judged_total c.args.columns.now) c.in_ok-total-in-Total.ensures.1 ∙ judged-total c.args.scope.now c.args.columns.now c.requires c.in-Total.raw c.in-Total.field-1 in
    let placed = ap placed.Total c.in_ok-total-in-Total.ensures.1 in
    rw c.in-Total.is
    (c.in_ok-total-in-Total.ensures.0, λ i. (judgement i, placed i))
