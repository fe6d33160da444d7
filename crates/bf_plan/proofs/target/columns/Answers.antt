use Rattle.std.proofs.Common.{List, [], ◌∷◌, ◌++◌, sym, ap₂, ◌∙◌}
use Rattle.bf_base.specs.declared.table.Column.{Column}
use Rattle.bf_plan.proofs.Columns.{columns_more}
use Rattle.bf_plan.proofs.target.columns.Goals as goal

pub loop-place-preserved : goal.loop-place-preserved
loop-place-preserved c =
    c.in_ok-push.ensures.items
    ∙ ap₂ (λ (columns : List Column) (more : Column). columns ++ more ∷ []) c.loop-place.invariant (λ i. record { name = (c.in_ok-name.ensures ∙ c.item_name.ensures) i; admits = c.admits_at-admits.ensures i })
    ∙ sym (columns_more c.args.arms.now c.args.items.now c.loop-place.place c.index-items-place.result c.loop-place-test.true c.index-items-place.is)
