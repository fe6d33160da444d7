use Rattle.std.proofs.Common.{◌≡◌, filter, map, take}
use Rattle.bf_base.specs.Tables.{cell}
use Rattle.bf_tree.specs.Evaluation.{holds_on}
use Rattle.bf_image.proofs.arm_rows.satisfying.Given as goal

-- of the rows so far those are found that satisfy the condition
abbrev pub invariant-loop-row : goal.invariant-loop-row
invariant-loop-row l = map (λ row. row.now) l.found.items ≡ filter (λ row. holds_on (cell row) l.arm.cond) (map (λ row. row.now) (take l.row-index l.rows))
