use Rattle.std.proofs.Common.{◌≡◌, take}
use Rattle.bf_base.specs.Tables.{cells}
use Rattle.bf_index.proofs.by_value.value_at.Given as goal

abbrev pub invariant-loop-place : goal.invariant-loop-place
invariant-loop-place l = l.values.items ≡ cells (take l.place-index l.places) l.row
