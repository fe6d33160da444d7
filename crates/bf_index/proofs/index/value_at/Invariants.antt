use Rattle.std.proofs.Common.{◌≡◌, take}
use Rattle.bf_base.specs.Tables.{cells}
use Rattle.bf_index.proofs.index.value_at.Given as goal

-- the values at the columns so far
abbrev pub invariant-loop-place : goal.invariant-loop-place
invariant-loop-place l = l.values.items ≡ cells (take l.place-index l.columns) l.row
