use Rattle.std.proofs.Common.{◌≡◌, ◌++◌, flat_map, take}
use Rattle.bf_image.specs.ArmRows.{rows_of_match}
use Rattle.bf_image.proofs.arm_rows.add_matches.Given as goal

-- the rows of the pairs so far stand behind the others
abbrev pub invariant-loop-right : goal.invariant-loop-right
invariant-loop-right l = l.made.items ≡ l.initial.made.items ++ flat_map (λ right. rows_of_match l.arm l.on (l.left ++ right.now)) (take l.right-index l.join)
