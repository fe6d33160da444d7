use Rattle.std.proofs.Common.{◌≡◌, ◌++◌, flat_map, take}
use Rattle.bf_image.specs.ArmRows.{rows_of_match}
use Rattle.bf_image.proofs.arm_rows.rows_of_pairs.Given as goal

-- the rows of the pairs of each row of FROM so far
abbrev pub invariant-loop-left : goal.invariant-loop-left
invariant-loop-left l =
    l.made.items ≡ flat_map (λ left. flat_map (λ right. rows_of_match l.arm l.on (left.now ++ right.now)) l.join) (take l.left-index l.from)
