use Rattle.std.proofs.Common.{◌≡◌, map, take}
use Rattle.bf_sql.specs.migrations.Placed.{placed_over}
use Rattle.bf_image.proofs.arm_rows.made_row.Given as goal

-- the items so far have given their values
abbrev pub invariant-loop-item : goal.invariant-loop-item
invariant-loop-item l = l.values.items ≡ map (placed_over (map (λ row. row.now) l.rows)) (take l.item-index l.items)
