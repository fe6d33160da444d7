use Rattle.std.proofs.Common.{[], ◌∷◌, ◌++◌, ap, ◌∙◌}
use Rattle.bf_image.specs.ArmRows.{IsUnobjected, made_of}
use Rattle.bf_image.proofs.arm_rows.Made.{one_at, one_more}
use Rattle.bf_image.proofs.arm_rows.rows_of_each.Goals as goal

pub made_row-requires : goal.made_row-requires
made_row-requires c =
    one_at c.args.rows.now c.loop-row.row-index c.row-item.result c.loop-row-test.true c.row-item.is (λ row. IsUnobjected c.args.arm.now (row.now ∷ [])) c.requires

pub loop-row-preserved : goal.loop-row-preserved
loop-row-preserved c =
    one_more c.args.rows.now c.loop-row.row-index c.row-item.result c.loop-row-test.true c.row-item.is (λ row. made_of c.args.arm.now (row.now ∷ [])) c.loop-row.made.items _ c.loop-row.invariant
    (c.in_ok-push.ensures.items ∙ ap (λ row. c.loop-row.made.items ++ row ∷ []) c.in_ok-made_row.ensures)
