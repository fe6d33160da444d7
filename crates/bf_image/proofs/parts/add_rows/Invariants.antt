use Rattle.std.proofs.Common.{◌≡◌, ◌++◌, map}
use Rattle.bf_image.proofs.parts.add_rows.Given as goal

-- the rows so far stand behind the others
abbrev pub invariant-loop-row : goal.invariant-loop-row
invariant-loop-row l = l.rows.items ≡ l.initial.rows.items ++ map (λ row. (l.target, row)) l.yielded
