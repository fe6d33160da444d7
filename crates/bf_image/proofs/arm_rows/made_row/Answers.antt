use Rattle.std.proofs.Common.{map, flat_map, ap, ◌∙◌}
use Rattle.bf_image.specs.ArmRows.{item_objections}
use Rattle.bf_image.proofs.arm_rows.Made.{none_at}
use Rattle.bf_image.proofs.arm_rows.made_row.Goals as goal

pub item_value-requires : goal.item_value-requires
item_value-requires c =
    let rows = map (λ row. row.now) c.args.rows.now in
    none_at c.as_slice-items.result.now c.loop-item.item-index c.item-item.result c.loop-item-test.true c.item-item.is
    (item_objections rows) (ap (flat_map (item_objections rows)) c.as_slice-items.ensures ∙ c.requires)
