use Rattle.std.proofs.Common.{◌≡◌, [], ◌∷◌, ◌++◌, map, take}
use Rattle.bf_sql.specs.migrations.Placed.{placed_over}
use Rattle.bf_image.proofs.arm_rows.columns_beside.Given as goal

-- the columns so far are copied
abbrev pub invariant-loop-item : goal.invariant-loop-item
invariant-loop-item l = l.values.items ≡ map (placed_over ((l.left ++ l.right) ∷ [])) (take l.item-index l.items)
