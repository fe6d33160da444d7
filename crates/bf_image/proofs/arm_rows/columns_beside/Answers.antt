use Rattle.std.proofs.Common.{ap, ◌∙◌}
use Rattle.std.specs.List.{list_all}
use Rattle.bf_image.specs.ArmRows.{is_column}
use Rattle.bf_image.proofs.arm_rows.Made.{passes}
use Rattle.bf_image.proofs.arm_rows.columns_beside.Goals as goal

pub column_beside-requires : goal.column_beside-requires
column_beside-requires c =
    passes c.as_slice-items.result.now c.loop-item.item-index c.item-item.result c.loop-item-test.true c.item-item.is is_column
    (ap (list_all is_column) c.as_slice-items.ensures ∙ c.requires)
