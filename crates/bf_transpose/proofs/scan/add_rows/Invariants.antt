use Rattle.std.proofs.Common.{◌≡◌, ◌++◌}
use Rattle.bf_transpose.specs.Scans.{row_granules}
use Rattle.bf_transpose.proofs.scan.add_rows.Given as goal

-- the granules of the positions so far
abbrev pub invariant-loop-position : goal.invariant-loop-position
invariant-loop-position l = l.granules.items ≡ l.fn.granules.items ++ row_granules l.unit l.position
