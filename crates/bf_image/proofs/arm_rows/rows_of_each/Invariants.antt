use Rattle.std.proofs.Common.{◌≡◌, [], ◌∷◌, map, take}
use Rattle.bf_image.specs.ArmRows.{made_of}
use Rattle.bf_image.proofs.arm_rows.rows_of_each.Given as goal

-- a row is made of each row so far
abbrev pub invariant-loop-row : goal.invariant-loop-row
invariant-loop-row l = l.made.items ≡ map (λ row. made_of l.arm (row.now ∷ [])) (take l.row-index l.rows)
