use Rattle.std.proofs.Common.{◌≡◌, take}
use Rattle.bf_base.specs.Tables.{cells}
use Rattle.bf_store.proofs.images.key_under.Given as goal

-- the values so far
abbrev pub invariant-loop-place : goal.invariant-loop-place
invariant-loop-place l = l.values.items ≡ cells (take l.place-index l.places) l.row
